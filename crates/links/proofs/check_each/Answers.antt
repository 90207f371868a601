-- `links::check_each` meets its contract. The loop's invariant: the links passed have no fault, and are in the chains of their pairs. Assumes nothing.
use Rattle.std.proofs.Common.{◌≡◌, rules, refl, sym, ap, ◌∙◌, length, ◌/◌}
use native.Mathlib.Omega.{arith}
use Rattle.links.specs.Faults.{links_fault}
use Rattle.links.specs.Replies.{fault_of}
use Rattle.links.proofs.FaultLaws.{links_next, links_found}
use Rattle.links.proofs.ChainLaws.{passed_next}
use Rattle.links.proofs.check_each.Goals as goal

pub loop-i-init : goal.loop-i-init
unfolding links_fault
loop-i-init c = (refl, c.requires.1)

pub check_link-requires : goal.check_link-requires
check_link-requires c = record { there = omega arith; few_gauges = c.requires.0; chained = c.loop-i.invariant.1 }

pub returns-in_err-check_link : goal.returns-in_err-check_link
returns-in_err-check_link c =
    let same : c.from_residual.result ≡ c.check_link.result = search rules in
    ap fault_of same ∙ c.check_link.ensures ∙ sym c.in_err-check_link.ensures
    ∙ sym (links_found c.args.numbers.now c.args.gauges c.loop-i.i c.loop-i.invariant.0 (sym c.in_err-check_link.ensures) _ (omega arith))

pub enter-requires : goal.enter-requires
enter-requires c =
    passed_next (record { there = omega arith; few_gauges = c.requires.0; chained = c.loop-i.invariant.1 }) (sym c.in_ok-check_link.ensures)

pub loop-i-preserved : goal.loop-i-preserved
loop-i-preserved c = (links_next c.args.numbers.now c.args.gauges c.loop-i.i c.loop-i.invariant.0 (sym c.in_ok-check_link.ensures), c.enter.ensures)

pub returns : goal.returns
returns c =
    let all : length c.args.numbers.now / 4 ≡ c.loop-i.i = omega arith in
    sym (ap (links_fault c.args.numbers.now c.args.gauges) all ∙ c.loop-i.invariant.0)

-- `links::check` meets its contract: the fault of the table as a whole, or else that of its links. Assumes nothing.
use Rattle.std.proofs.Common.{◌≡◌, rules, sym, ap, ◌∙◌}
use Rattle.links.specs.Replies.{fault_of}
use Rattle.links.proofs.FaultLaws.{head_passed, table_head, table_links}
use Rattle.links.proofs.check.Goals as goal

pub returns-in_err-check_head : goal.returns-in_err-check_head
returns-in_err-check_head c =
    let same : c.from_residual.result ≡ c.check_head.result = search rules in
    ap fault_of same ∙ c.check_head.ensures ∙ sym c.in_err-check_head.ensures ∙ sym (table_head c.args.numbers.now c.args.gauges (sym c.in_err-check_head.ensures))

pub check_links-requires : goal.check_links-requires
check_links-requires c = head_passed c.args.numbers.now c.args.gauges (sym c.in_ok-check_head.ensures)

pub returns : goal.returns
returns c = c.check_links.ensures ∙ sym (table_links c.args.numbers.now c.args.gauges (sym c.in_ok-check_head.ensures))

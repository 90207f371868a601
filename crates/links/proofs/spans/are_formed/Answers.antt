-- `links::spans::are_formed` meets its contract: `all` said yes of each number of the range. Assumes nothing.
use Rattle.std.proofs.Common.{ℕ, ◌∙◌, refl, zero-add, arith, rules, tests, subst}
use Rattle.std.proofs.lemmas.Bool.{MatchBool-at_true}
use Rattle.std.proofs.lemmas.Iterator.{cases_from_all, YieldsList-from_range}
use Rattle.std.proofs.lemmas.List.FromFn.{length-range_with_len, get_or-range_with_len}
use Rattle.links.specs.Links.{count}
use Rattle.links.specs.Spans.{Formed}
use Rattle.links.proofs.spans.are_formed.Goals as goal

pub returns : goal.returns
returns c =
    λ e i h.
    let n = count c.args.numbers.now in
    let each = MatchBool-at_true _ _ e (cases_from_all _ _ c.all.result (Formed c.args.numbers.now) (λ (x : ℕ). Unit {0}) c.all.ensures.ran (YieldsList-from_range 0 n n refl (omega arith)) (λ x q k. search (rules, tests)) (λ x q k. tt)) in
    subst (Formed c.args.numbers.now) (get_or-range_with_len 0 n i 0 h ∙ zero-add i) (each i 0 (omega arith) (omega (arith, length-range_with_len 0 n)))

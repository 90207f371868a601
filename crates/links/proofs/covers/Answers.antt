-- `links::covers` meets its contract: each way out is one of the tests that `Covers` names. Assumes nothing.
use native.Mathlib.Omega.{arith}
use borrow.Author.Rules.{rules}
use Rattle.gauges.proofs.Flags.{tells_no, tells_as}
use Rattle.links.proofs.covers.Goals as goal

pub returns-then-end-begin : goal.returns-then-end-begin
returns-then-end-begin c = tells_no (λ k. omega (arith, k.span))

pub returns-then-begin-link_at : goal.returns-then-begin-link_at
returns-then-begin-link_at c = tells_no (λ k. omega (arith, k.from, c.link_at.ensures.begin))

pub returns-then-link_at-end : goal.returns-then-link_at-end
returns-then-link_at-end c = tells_no (λ k. omega (arith, k.upto, c.link_at-2.ensures.end))

pub returns : goal.returns
returns c =
    tells_as
    (λ o. record {
      there = search rules;
      pair = o;
      span = c.if-end-begin.false;
      from = omega (arith, c.link_at.ensures.begin, c.if-begin-link_at.false);
      upto = omega (arith, c.link_at-2.ensures.end, c.if-link_at-end.false);
    })
    (λ k. k.pair)
    c.is_of.ensures

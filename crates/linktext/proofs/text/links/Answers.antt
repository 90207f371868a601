-- `linktext::text::links` meets its contract. The loop's invariant: the links taken so far, and how the text goes on. Assumes nothing.
use Rattle.std.proofs.Common.{◌≡◌, sym, ap, ◌∙◌, ℕ, ◌*◌, take, arith}
use borrow.Author.Tests.{eqb-true}
use Rattle.linktext.specs.Texts.{table}
use Rattle.linktext.proofs.LineLaws.{refused_as, some_left, links_end, links_many, links_more, links_broken}
use Rattle.linktext.proofs.text.links.Goals as goal

pub returns-then-is_empty-clause-read : goal.returns-then-is_empty-clause-read
returns-then-is_empty-clause-read c = links_end c.loop-links.invariant (eqb-true _ _ (sym c.if-is_empty.ensures))

pub returns-in-Err-clause-read : goal.returns-in-Err-clause-read
returns-in-Err-clause-read c =
    refused_as c.in_line.ensures (links_broken c.loop-links.invariant (some_left _ c.if-is_empty.ensures) c.loop-links-test.true (omega arith) c.in-Err.ensures)

pub loop-links-preserved : goal.loop-links-preserved
loop-links-preserved c = links_more c.loop-links.invariant (some_left _ c.if-is_empty.ensures) c.loop-links-test.true (omega arith) c.in-Ok.ensures c.line.auto.numbers

pub returns-then-is_empty-2-clause-read : goal.returns-then-is_empty-2-clause-read
returns-then-is_empty-2-clause-read c =
    let all : 8192 ≡ 4 * c.loop-links.links = omega arith in
    ap (λ (n : ℕ). table c.args.gauges (take n c.loop-links.numbers)) all ∙ links_end c.loop-links.invariant (eqb-true _ _ (sym c.if-is_empty-2.ensures))

pub returns-clause-read : goal.returns-clause-read
returns-clause-read c = refused_as c.in_line-2.ensures (links_many c.loop-links.invariant (some_left _ c.if-is_empty-2.ensures) (omega arith) (omega arith))

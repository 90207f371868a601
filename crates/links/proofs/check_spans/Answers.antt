-- `links::check_spans` meets its contract: the quick test says yes of tables of spans alone, and where it says no, the check with 64 gauges decides. Assumes nothing.
use mathlib.Core.Path.{◌≡◌, refl, sym, ap, ◌∙◌}
use borrow.Author.Rules.{rules}
use Rattle.links.specs.Faults.{spans_fault}
use Rattle.links.specs.Replies.{fault_of, spans, no_spans}
use Rattle.links.proofs.LineLaws.{unchanged_by_begin}
use Rattle.links.proofs.SpanLaws.{spans_no_fault, lines_up_spans, lines_up_not}
use Rattle.links.proofs.check_spans.Goals as goal

pub returns-then-lines_up : goal.returns-then-lines_up
returns-then-lines_up c =
    let w = lines_up_spans c.lines_up.ensures c.if-lines_up.true in
    spans (spans_no_fault _ w.0) refl w.1

pub returns-in_err-check : goal.returns-in_err-check
unfolding spans_fault
returns-in_err-check c =
    let unchanged : c.lines_up.new.line ≡ c.args.line.now = lines_up_not c.lines_up.ensures c.if-lines_up.false in
    let same : c.from_residual.result ≡ c.check.result = search rules in
    let found = c.in_err-check.ensures in
    no_spans (sym found) (ap fault_of same ∙ c.check.ensures ∙ sym found) unchanged

pub returns : goal.returns
unfolding spans_fault
returns c =
    let unchanged : c.lines_up.new.line ≡ c.args.line.now = lines_up_not c.lines_up.ensures c.if-lines_up.false in
    spans (sym c.in_ok-check.ensures) refl (unchanged_by_begin unchanged c.by_begin.ensures)

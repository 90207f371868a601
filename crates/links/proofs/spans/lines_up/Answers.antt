-- `links::spans::lines_up` meets its contract: the line of the spans that pass is handed over. Assumes nothing.
use mathlib.Core.Path.{refl}
use Rattle.links.specs.Spans.{stands, stands_not}
use Rattle.links.proofs.LineLaws.{over_by_begin}
use Rattle.links.proofs.spans.lines_up.Goals as goal

pub are_spans-requires : goal.are_spans-requires
are_spans-requires c = record { before = _; by = c.by_begin.ensures }

pub returns-then-not-are_spans : goal.returns-then-not-are_spans
returns-then-not-are_spans c = stands_not refl refl

pub returns : goal.returns
returns c =
    let are = c.are_spans.ensures c.if-not-are_spans.false in
    stands refl are (over_by_begin c.by_begin.ensures are.few are.few c.hand_over.ensures)

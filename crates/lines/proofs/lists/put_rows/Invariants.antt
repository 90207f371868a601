-- `lines::lists::put_rows`. The loop's invariant: the lines of the rows passed are put. Assumes nothing.
use Rattle.lines.specs.Text.{rows_of}
use Rattle.lines.specs.Pieces.{Adds}
use Rattle.lines.proofs.lists.put_rows.Given as goal

abbrev pub invariant-loop-row : goal.invariant-loop-row
invariant-loop-row l = Adds (rows_of l.numbers l.row-index) l.initial.to l.to

-- `lines::lists::rows_fit`. The loop's invariant: the lines of the rows passed and the bytes left make up the room. Assumes nothing.
use mathlib.Core.Path.{◌≡◌}
use Prim.Native.Nat.{◌+◌}
use lib.ListN.{length}
use Rattle.lines.specs.Text.{rows_of}
use Rattle.lines.proofs.lists.rows_fit.Given as goal

abbrev pub invariant-loop-row : goal.invariant-loop-row
invariant-loop-row l = length (rows_of l.numbers l.row-index) + l.left ≡ l.room

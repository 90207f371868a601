-- `linktext::text::line`. The loop's invariant: the numbers taken so far, and how the line goes on. Assumes nothing.
use Rattle.std.proofs.Common.{length}
use Rattle.linktext.proofs.LineLaws.{LineTurn}
use Rattle.linktext.proofs.text.line.Given as goal

abbrev pub invariant-loop-number : goal.invariant-loop-number
invariant-loop-number l = LineTurn l.text (length l.initial.numbers) l.rest l.number-index l.numbers

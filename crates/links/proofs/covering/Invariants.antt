-- `links::covering`. The loop's invariant: no link from number i on covers the span. Assumes nothing.
use Rattle.std.proofs.Common.{◌≤◌, ◌/◌, length}
use Rattle.links.proofs.PairTest.{NoneFrom}
use Rattle.links.proofs.covering.Given as goal

abbrev pub invariant-loop-i : goal.invariant-loop-i
invariant-loop-i l = (l.i ≤ length l.numbers / 4) × NoneFrom l.numbers l.u l.v l.begin l.end l.i

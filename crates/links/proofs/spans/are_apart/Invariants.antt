-- `links::spans::are_apart`. The loop's invariant: the spans passed are apart. Assumes nothing.
use Rattle.links.proofs.ApartLaws.{Passed}
use Rattle.links.proofs.spans.are_apart.Given as goal

abbrev pub invariant-loop-i : goal.invariant-loop-i
invariant-loop-i l = Passed l.numbers l.line l.free l.i-index

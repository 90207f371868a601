-- `sweep::pairs::Pairs::has_pair`. The loop's invariant: what is left of the set has each of its gauges that is linked to one of it. Assumes nothing.
use Rattle.sweep.proofs.Worths.{Unpaired}
use Rattle.sweep.proofs.pairs.Pairs.has_pair.Given as goal

abbrev pub invariant-loop-u : goal.invariant-loop-u
invariant-loop-u l =
    (goal.iterator-loop-u).can_next l.u-iterator × (goal.iterator-loop-u).is_finite l.u-iterator × Unpaired l.self.near l.set l.u-iterator.left

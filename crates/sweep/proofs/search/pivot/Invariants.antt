-- `sweep::search::pivot`. The loop's invariant: the best so far is a gauge of p or q, and so is each that is left. Assumes nothing.
use lib.Bits.{bit_or}
use Rattle.gauges.specs.Sets.{Within}
use Rattle.sweep.specs.Search.{PivotOf}
use Rattle.sweep.proofs.search.pivot.Given as goal

abbrev pub invariant-loop-k : goal.invariant-loop-k
invariant-loop-k l =
    (goal.iterator-loop-k).can_next l.k-iterator × (goal.iterator-loop-k).is_finite l.k-iterator × PivotOf l.p l.q l.best × Within l.k-iterator.left (bit_or l.p l.q)

-- `sweep::search::search`. The measure is the number of candidates and excluded gauges. The loop's invariant is `Loop`. Assumes nothing.
use Rattle.std.proofs.Common.{bit_or}
use Rattle.std.specs.Int.Count.{ones}
use Rattle.sweep.proofs.Steps.{Loop}
use Rattle.sweep.proofs.search.+search.Given as goal

abbrev pub decreases-search : goal.decreases-search
decreases-search l = ones (bit_or l.p l.q)

abbrev pub invariant-loop-v : goal.invariant-loop-v
invariant-loop-v l =
    (goal.iterator-loop-v).can_next l.v-iterator × (goal.iterator-loop-v).is_finite l.v-iterator
    × Loop l.adj l.sought l.r l.p l.q l.k l.initial.rows l.initial.found l.rows l.found l.cand l.gone l.v-iterator.left

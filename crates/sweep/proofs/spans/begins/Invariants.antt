-- `sweep::spans::begins`. The loop's invariant is `Begins`: the groups that begin with the runs passed are found. Assumes nothing.
use Prim.Native.Nat.{◌-◌, ◌/◌}
use lib.ListN.{length}
use Rattle.sweep.proofs.BeginLaws.{Begins}
use Rattle.sweep.proofs.spans.begins.Given as goal

abbrev pub invariant-loop-i : goal.invariant-loop-i
invariant-loop-i l = Begins l.runs l.order l.initial.line l.line l.head l.i l.least l.initial.rows l.initial.found l.rows l.found

abbrev pub decreases-loop-i : goal.decreases-loop-i
decreases-loop-i l = length l.runs / 4 - l.i

-- `sweep::spans::spans`. The loop's invariant is `Ends`: the groups that end with the runs passed are found. Assumes nothing.
use Prim.Native.Nat.{◌-◌}
use lib.ListN.{length}
use Rattle.sweep.proofs.HourLaws.{Ends}
use Rattle.sweep.proofs.spans.spans.Given as goal

abbrev pub invariant-loop-a : goal.invariant-loop-a
invariant-loop-a l = Ends l.standing.runs.now l.standing.line.now 0 (length l.standing.line.now) l.hour.begin l.hour.least l.a l.adj l.initial.rows l.initial.found l.rows l.found

abbrev pub decreases-loop-a : goal.decreases-loop-a
decreases-loop-a l = length l.standing.line.now - l.a

-- `Part::count_inner`. The loop's invariant: `inner` is right for the runs passed. Assumes nothing.
use lib.ListN.{take}
use Rattle.sweep.specs.Graphs.{Counted}
use Rattle.sweep.proofs.graph.Part.count_inner.Given as goal

abbrev pub invariant-loop-r : goal.invariant-loop-r
invariant-loop-r l = Counted l.self.runs.now (take l.r-index l.self.line.now) l.set l.inner

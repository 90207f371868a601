-- `Part::last_end`. The loop's invariant: no run passed ends later. Assumes nothing.
use lib.ListN.{take}
use Rattle.sweep.specs.Graphs.{LastEnd}
use Rattle.sweep.proofs.graph.Part.last_end.Given as goal

abbrev pub invariant-loop-r : goal.invariant-loop-r
invariant-loop-r l = LastEnd l.self.runs.now (take l.r-index l.self.line.now) l.last

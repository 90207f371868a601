-- `Part::tops`. The loop's invariant: the set holds the gauges of the runs passed. Assumes nothing.
use lib.ListN.{take}
use Rattle.sweep.specs.Graphs.{BothIn}
use Rattle.sweep.proofs.graph.Part.tops.Given as goal

abbrev pub invariant-loop-r : goal.invariant-loop-r
invariant-loop-r l = BothIn l.self.runs.now (take l.r-index l.self.line.now) l.set

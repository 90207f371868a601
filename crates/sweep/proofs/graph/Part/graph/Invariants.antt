-- `Part::graph`. The loop's invariant: the graph shows the runs passed. Assumes nothing.
use lib.ListN.{take}
use Rattle.sweep.specs.Graphs.{Drawn, Shows}
use Rattle.sweep.proofs.graph.Part.graph.Given as goal

abbrev pub invariant-loop-r : goal.invariant-loop-r
invariant-loop-r l = Shows l.adj (Drawn l.self.runs.now (take l.r-index l.self.line.now))

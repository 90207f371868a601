-- `Part::erase_from`. The loop's invariant: the runs passed are unlinked. Assumes nothing.
use lib.ListN.{take}
use Rattle.sweep.specs.Graphs.{Drawn, Lost}
use Rattle.sweep.proofs.graph.Part.erase_from.Given as goal

abbrev pub invariant-loop-r : goal.invariant-loop-r
invariant-loop-r l = Lost l.initial.adj l.adj (Drawn l.self.runs.now (take l.r-index l.self.line.now))

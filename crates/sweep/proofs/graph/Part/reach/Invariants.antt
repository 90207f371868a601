-- `Part::reach`. The loop's invariant: the set holds the gauges of all the runs, and of those passed every gauge that is linked to both. Assumes nothing.
use Prim.Native.Nat.{ℕ}
use lib.ListN.{take}
use Rattle.std.specs.List.{All}
use Rattle.sweep.specs.Graphs.{BothIn, Around}
use Rattle.sweep.proofs.graph.Part.reach.Given as goal

abbrev pub invariant-loop-r : goal.invariant-loop-r
invariant-loop-r l = BothIn l.self.runs.now l.self.line.now l.set × All (λ (r : ℕ). Around l.self.runs.now l.adj r l.set) (take l.r-index l.self.line.now)

-- `Part::last_end` meets its contract. The loop's invariant: no run passed ends later. Assumes nothing.
use native.Mathlib.Omega.{arith}
use Rattle.sweep.proofs.WalkLaws.{last_more}
use Rattle.sweep.proofs.graph.Part.last_end.Goals as goal

pub loop-r-preserved : goal.loop-r-preserved
loop-r-preserved c =
    last_more c.args.self.now.runs.now c.args.self.now.line.now c.loop-r.r-index c.loop-r-test.true c.loop-r.invariant
    (grind (arith, c.max-last.ensures)) (grind (arith, c.max-last.ensures, c.run_at.ensures.end))

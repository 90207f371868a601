-- `Part::count_inner` meets its contract. The loop's invariant: `inner` is right for the runs passed. Assumes nothing.
use mathlib.Core.Path.{subst, sym}
use Prim.Native.Nat.{◌+◌}
use lib.ListN.{take}
use Rattle.sweep.specs.Graphs.{Counted}
use Rattle.sweep.proofs.WalkLaws.{counted_out, counted_one}
use Rattle.sweep.proofs.graph.Part.count_inner.Goals as goal
use Rattle.sweep.proofs.graph.Part.count_inner.Goals.{then-is_inside+in-NoRun, else-is_inside}

pub loop-r-preserved : goal.loop-r-preserved
loop-r-preserved c =
    let t = c.args.self.now.runs.now in
    let part = c.args.self.now.line.now in
    let i = c.loop-r.r-index in
    let set = c.args.set in
    elim c.if-is_inside.branch [
      | then-is_inside+in-NoRun w ↦ subst (Counted t (take (i + 1) part) set) (sym w.inner-is)
          (counted_one t part i set c.loop-r-test.true c.loop-r.invariant w.in-NoRun.is (c.is_inside.ensures.holds w.if-is_inside.true))
      | else-is_inside w ↦ subst (Counted t (take (i + 1) part) set) (sym w.inner-is)
          (counted_out t part i set c.loop-r-test.true c.loop-r.invariant (c.is_inside.ensures.fails w.if-is_inside.false))
    ]

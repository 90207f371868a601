-- `Part::reach` meets its contract. The loop's invariant: the set reaches from the runs passed. Assumes nothing.
use mathlib.Core.Path.{◌≡◌, ap, subst, ◌∙◌}
use Prim.Native.Nat.{ℕ}
use native.Mathlib.Omega.{arith}
use lib.ListN.{length, take}
use Rattle.std.proofs.Math.Seq.{take-length}
use Rattle.std.specs.List.{All}
use Rattle.sweep.specs.Graphs.{Around}
use Rattle.sweep.specs.Near.{near}
use Rattle.sweep.proofs.WalkLaws.{both_wider, around_more}
use Rattle.sweep.proofs.graph.Part.reach.Goals as goal

pub loop-r-preserved : goal.loop-r-preserved
loop-r-preserved c =
    let run = c.run_at-run.ensures in (
      both_wider _ c.loop-r.invariant.0,
      around_more c.args.self.now.runs.now c.args.self.now.line.now c.loop-r.r-index c.loop-r.set c.loop-r-test.true c.loop-r.invariant.1
          (c.links.ensures ∙ ap (near c.args.adj.now) run.one) (c.links-in-loop-r.ensures ∙ ap (near c.args.adj.now) run.other),
    )

pub returns : goal.returns
returns c =
    let all : c.loop-r.r-index ≡ length c.args.self.now.line.now = omega arith in
    let passed : All (λ (r : ℕ). Around c.args.self.now.runs.now c.args.adj.now r c.loop-r.set) (take (length c.args.self.now.line.now) c.args.self.now.line.now) =
    subst (λ (n : ℕ). All (λ (r : ℕ). Around c.args.self.now.runs.now c.args.adj.now r c.loop-r.set) (take n c.args.self.now.line.now)) all c.loop-r.invariant.1 in
    record { both = c.loop-r.invariant.0; around = rw (take-length c.args.self.now.line.now) at passed }

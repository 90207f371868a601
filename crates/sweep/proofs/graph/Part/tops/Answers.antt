-- `Part::tops` meets its contract. The loop's invariant: the set holds the gauges of the runs passed. Assumes nothing.
use Rattle.sweep.proofs.WalkLaws.{only_holds, both_more}
use Rattle.sweep.proofs.graph.Part.tops.Goals as goal

pub loop-r-preserved : goal.loop-r-preserved
loop-r-preserved c =
    let i = c.loop-r.r-index in
    let run = c.run_at-run.ensures in
    let gauged = c.args.self.now.drawable.each i 0 c.loop-r-test.true in
    both_more c.args.self.now.runs.now c.args.self.now.line.now i c.loop-r.set c.only.result c.only-in-loop-r.result c.loop-r-test.true c.loop-r.invariant
    (only_holds c.only.ensures run.one gauged.one_below) (only_holds c.only-in-loop-r.ensures run.other gauged.other_below)

-- `Part::erase_from` meets its contract. The loop's invariant: the runs passed are unlinked. Assumes nothing.
use Rattle.sweep.proofs.WalkLaws.{lost_more}
use Rattle.sweep.proofs.graph.Part.erase_from.Goals as goal

pub loop-r-preserved : goal.loop-r-preserved
loop-r-preserved c =
    let run = c.run_at-run.result in
    lost_more c.args.self.now.runs.now c.args.self.now.line.now c.loop-r.r-index run.one run.other
    c.loop-r-test.true c.run_at-run.ensures.one c.run_at-run.ensures.other c.loop-r.invariant c.unlink.ensures

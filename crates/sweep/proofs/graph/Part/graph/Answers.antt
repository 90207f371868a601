-- `Part::graph` meets its contract. The loop's invariant: the graph shows the runs passed. Assumes nothing.
use Rattle.sweep.proofs.WalkLaws.{shows_none, shows_more}
use Rattle.sweep.proofs.graph.Part.graph.Goals as goal

pub loop-r-init : goal.loop-r-init
loop-r-init c = shows_none c.args.self.now.runs.now c.args.self.now.line.now

pub loop-r-preserved : goal.loop-r-preserved
loop-r-preserved c =
    let run = c.run_at-run.result in
    shows_more c.args.self.now.runs.now c.args.self.now.line.now c.loop-r.r-index run.one run.other
    c.loop-r-test.true c.run_at-run.ensures.one c.run_at-run.ensures.other c.loop-r.invariant c.link.ensures

-- `sweep::spans::begins` meets its contract. The loop's invariant is `Begins`: the groups that begin with the runs passed are found. Assumes nothing.
use mathlib.Core.Path.{◌≡◌, sym}
use native.Mathlib.Omega.{arith}
use borrow.Author.Rules.{rules}
use Rattle.links.specs.Links as Links
use Rattle.sweep.specs.Lines.{run}
use Rattle.sweep.proofs.BeginLaws.{begins_none, begins_known, begins_all, begins_overgrown, turn_joins, turn_further, turn_begin, turn_sooner, turn_more}
use Rattle.sweep.proofs.spans.begins.Goals as goal
use Rattle.sweep.proofs.spans.begins.Goals.{After-run_at-x}

pub loop-i-init : goal.loop-i-init
loop-i-init c = begins_none c.requires c.args.least c.args.rows.now

pub drop_ended-head-requires : goal.drop_ended-head-requires
drop_ended-head-requires c = (begins_known c.requires c.loop-i.invariant, c.loop-i.invariant.swept.low)

-- the run at place i begins at x
begins_at : (c : After-run_at-x) → Links.begins c.args.runs.now (run c.args.order.now c.loop-i.i) ≡ c.run_at-x.result.begin
begins_at c = sym c.run_at-x.ensures.begin

pub enter_all-next-requires : goal.enter_all-next-requires
enter_all-next-requires c =
    turn_joins c.requires c.loop-i.invariant c.loop-i-test.true (begins_at (goal.at.enter_all-next-requires c).After-run_at-x) c.drop_ended-head.ensures

pub starts-requires : goal.starts-requires
starts-requires c =
    let is = begins_at (goal.at.starts-requires c).After-run_at-x in (
      turn_begin c.requires c.loop-i.invariant c.loop-i-test.true is c.drop_ended-head.ensures c.enter_all-next.ensures.0 c.enter_all-next.ensures.1,
      c.loop-i.invariant.grown.tidy,
      turn_sooner c.requires c.loop-i.invariant c.loop-i-test.true is,
    )

pub loop-i-smaller : goal.loop-i-smaller
loop-i-smaller c =
    let is = begins_at (goal.at.loop-i-smaller c).After-run_at-x in
    omega (arith, c.loop-i-test.true, turn_further c.requires c.loop-i.invariant c.loop-i-test.true is c.drop_ended-head.ensures c.enter_all-next.ensures.0 c.enter_all-next.ensures.1)

pub loop-i-preserved : goal.loop-i-preserved
loop-i-preserved c =
    let is = begins_at (goal.at.loop-i-preserved c).After-run_at-x in
    turn_more c.requires c.loop-i.invariant c.loop-i-test.true is c.drop_ended-head.ensures c.enter_all-next.ensures.0 c.enter_all-next.ensures.1 c.in_ok-found.ensures

pub returns-in_err-found : goal.returns-in_err-found
returns-in_err-found c = let w = begins_overgrown c.requires c.loop-i.invariant c.in_err-found.ensures in search rules

pub returns : goal.returns
returns c = begins_all c.requires c.loop-i.invariant c.loop-i-test.false

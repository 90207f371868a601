-- `sweep::spans::spans` meets its contract. The loop's invariant is `Ends`: the groups that end with the runs passed are found. Assumes nothing.
use native.Mathlib.Nat.{le_of_eq, lt_of_lt_of_le}
use native.Mathlib.Omega.{arith}
use borrow.Author.Rules.{rules}
use lib.ListN.{length}
use Rattle.sweep.proofs.HourLaws.{Next, ends_none, ends_all, ends_past, ends_overgrown, next_ends, next_span, next_past, next_more}
use Rattle.sweep.proofs.spans.spans.Goals as goal
use Rattle.sweep.proofs.spans.spans.Goals.{After-drop_ended-b}

pub loop-a-init : goal.loop-a-init
loop-a-init c = ends_none c.requires.0 c.requires.1

pub returns-then-hour-y : goal.returns-then-hour-y
returns-then-hour-y c = ends_past c.requires.0 c.loop-a.invariant c.loop-a-test.true (lt_of_lt_of_le c.if-hour-y.true (le_of_eq c.run_at-y.ensures.end))

-- the runs that end next
next : (c : After-drop_ended-b) → Next c.args.standing.now.runs.now c.args.standing.now.line.now c.loop-a.a c.drop_ended-b.result (length c.args.standing.now.line.now) c.run_at-y.result.end
next c = next_ends c.requires.0 c.loop-a.invariant.low c.loop-a-test.true c.run_at-y.ensures.end c.drop_ended-b.ensures

pub one_span-requires : goal.one_span-requires
one_span-requires c =
    let n = next (goal.at.one_span-requires c).After-drop_ended-b in (
      next_span c.requires.0 c.loop-a.invariant n c.run_at-y.ensures.end,
      c.loop-a.invariant.grown.tidy,
      next_past c.requires.0 c.loop-a.invariant n c.run_at-y.ensures.end c.requires.2,
    )

pub loop-a-smaller : goal.loop-a-smaller
loop-a-smaller c = let n = next (goal.at.loop-a-smaller c).After-drop_ended-b in omega (arith, n.more, n.high)

pub loop-a-preserved : goal.loop-a-preserved
loop-a-preserved c =
    next_more c.requires.0 c.loop-a.invariant (next (goal.at.loop-a-preserved c).After-drop_ended-b) c.run_at-y.ensures.end c.in_ok-found.ensures c.erase_from.ensures

pub returns-in_err-found : goal.returns-in_err-found
returns-in_err-found c = let w = ends_overgrown c.requires.0 c.loop-a.invariant c.in_err-found.ensures in search rules

pub returns : goal.returns
returns c = ends_all c.requires.0 c.loop-a.invariant c.loop-a-test.false

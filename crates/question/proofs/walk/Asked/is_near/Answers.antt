-- `Asked::is_near` meets its contract. The loop's invariant: gauge k is joined to every member that is passed. Assumes nothing.
use Rattle.std.proofs.Common.{rules, ◌≡◌, sym, subst}
use Rattle.gauges.proofs.Flags.{tells_yes, tells_no}
use Rattle.links.proofs.PairTest.{some_joined, none_unjoined}
use Rattle.question.proofs.Rests.{Rest, rest_all, rest_next, none_left}
use Rattle.question.proofs.Fitting.{NearPassed, near_start, near_next, near_end, not_near}
use Rattle.question.proofs.walk.Asked.is_near.Goals as goal

pub loop-u-init : goal.loop-u-init
loop-u-init c =
    let all : c.into_iter-u-iterator.result.left ≡ c.args.members = search rules in (
      tt {0},
      tt {0},
      subst (Rest c.args.members) (sym all) (rest_all c.args.members),
      subst (NearPassed c.args.self.now.numbers.now c.args.members c.args.self.now.begin c.args.self.now.end c.args.k) (sym all) (near_start _ _ _ _ _),
    )

pub returns-then-is_none : goal.returns-then-is_none
returns-then-is_none c =
    tells_no (not_near c.loop-u.invariant.2 c.in-Some.ensures.steps (none_unjoined _ _ _ _ _ c.covering.result c.covering.ensures (search rules)))

pub loop-u-preserved : goal.loop-u-preserved
loop-u-preserved c = (
  tt {0},
  tt {0},
  rest_next c.loop-u.invariant.2 c.in-Some.ensures.steps,
  near_next c.in-Some.ensures.steps (some_joined _ _ _ _ _ c.covering.result c.covering.ensures (search rules)) c.loop-u.invariant.3,
)

pub returns : goal.returns
returns c = tells_yes (near_end (none_left c.in-None.ensures.steps.0) c.loop-u.invariant.3)

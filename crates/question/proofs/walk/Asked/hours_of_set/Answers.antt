-- `Asked::hours_of_set` meets its contract. The loop's invariant: the pairs whose lower gauge is passed have these hours in common. Assumes nothing.
use Rattle.std.proofs.Common.{rules, ◌≡◌, sym, subst, ◌∙◌}
use Rattle.question.specs.Verdicts.{PairOf}
use Rattle.question.specs.Walks.{ReachOf}
use Rattle.question.proofs.Rests.{rest_all, rest_next, none_left}
use Rattle.question.proofs.Reaches.{common_none, common_both, common_as, pairs_start, pairs_next, pairs_lack, pairs_end}
use Rattle.question.proofs.walk.Asked.hours_of_set.Goals as goal

pub loop-u-init : goal.loop-u-init
loop-u-init c = (tt {0}, tt {0}, rest_all c.args.members, common_none c.args.self.now.walkable c.args.self.now.in_64_bits (pairs_start c.args.members))

pub returns-in_err-hours_of_gauge : goal.returns-in_err-hours_of_gauge
returns-in_err-hours_of_gauge c =
    let same : c.from_residual.result ≡ c.hours_of_gauge.result = search rules in
    subst (ReachOf c.args.self.now.numbers.now c.args.self.now.begin c.args.self.now.end (PairOf c.args.members)) (sym (same ∙ c.in_err-hours_of_gauge.was))
    (pairs_lack c.loop-u.invariant.2 c.in-Some.ensures.steps c.args.self.now.walkable c.loop-u.invariant.3 c.in_err-hours_of_gauge.ensures)

pub loop-u-preserved : goal.loop-u-preserved
loop-u-preserved c = (
  tt {0},
  tt {0},
  rest_next c.loop-u.invariant.2 c.in-Some.ensures.steps,
  common_both c.args.self.now.walkable (pairs_next c.loop-u.invariant.2 c.in-Some.ensures.steps) c.loop-u.invariant.3 c.in_ok-hours_of_gauge.ensures
      c.common-hours.ensures,
)

pub returns : goal.returns
returns c = common_as c.args.self.now.walkable (λ a b p. p.pair) (pairs_end (none_left c.in_default.ensures.steps.0)) c.loop-u.invariant.3

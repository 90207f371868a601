-- `Asked::lowest_further` meets its contract. The loop's invariant: no gauge that is passed fits. Assumes nothing.
use Rattle.std.proofs.Common.{rules, ◌≡◌, sym, subst, ◌-◌, ◌^◌, bit_and}
use Rattle.question.proofs.Rests.{rest_all, rest_next, none_left}
use Rattle.question.proofs.Fitting.{Others, others_are, none_start, none_next, fit_found, fit_none}
use Rattle.question.proofs.walk.Asked.lowest_further.Goals as goal

pub loop-k-init : goal.loop-k-init
loop-k-init c = (tt {0}, tt {0}, rest_all _, none_start _ _ _ _ _)

pub returns-then-is_near : goal.returns-then-is_near
returns-then-is_near c =
    let all : c.into_iter-k-iterator.result.left ≡ bit_and c.below.result ((2 ^ 64 - 1) - c.args.members) = search rules in
    let others = subst (Others c.args.gauges c.args.members) (sym all) (others_are c.requires c.below.ensures c.below.type_inv c.ranges.members.fits) in
    fit_found others c.loop-k.invariant.2 c.loop-k.invariant.3 c.in-Some.ensures.steps (c.is_near.ensures.holds c.if-is_near.true)

pub loop-k-preserved : goal.loop-k-preserved
loop-k-preserved c = (
  tt {0},
  tt {0},
  rest_next c.loop-k.invariant.2 c.in-Some.ensures.steps,
  none_next c.in-Some.ensures.steps (c.is_near.ensures.fails c.if-is_near.false) c.loop-k.invariant.3,
)

pub returns : goal.returns
returns c =
    let all : c.into_iter-k-iterator.result.left ≡ bit_and c.below.result ((2 ^ 64 - 1) - c.args.members) = search rules in
    let others = subst (Others c.args.gauges c.args.members) (sym all) (others_are c.requires c.below.ensures c.below.type_inv c.ranges.members.fits) in
    fit_none others c.loop-k.invariant.2 c.loop-k.invariant.3 (none_left c.in-None.ensures.steps.0)

-- `sweep::search::pivot` meets its contract. The loop's invariant: the best so far is a gauge of p or q, and so is each that is left. Assumes nothing.
use mathlib.Core.Logic.{inl}
use Rattle.std.proofs.Common.{rules, ◌≡◌, sym, subst, bit_or}
use Rattle.gauges.specs.Sets.{Within}
use Rattle.gauges.proofs.Laws.{within_refl}
use Rattle.sweep.proofs.Steps.{lowest_pivot}
use Rattle.sweep.proofs.search.pivot.Goals as goal

pub loop-k-init : goal.loop-k-init
loop-k-init c =
    let all : c.into_iter-k-iterator.result.left ≡ bit_or c.args.p c.args.q = search rules in (
      tt {0},
      tt {0},
      record { gauge = c.lowest-best.ensures.gauge c.requires; live = inl (c.lowest-best.ensures.there c.requires) },
      subst (λ left. Within left (bit_or c.args.p c.args.q)) (sym all) (within_refl (bit_or c.args.p c.args.q)),
    )

pub loop-k-preserved-then-most-n : goal.loop-k-preserved-then-most-n
unfolding Within
loop-k-preserved-then-most-n c = (
  tt {0},
  tt {0},
  lowest_pivot c.loop-k.invariant.3 c.in-Some.ensures.steps,
  λ k h. c.loop-k.invariant.3 k (c.in-Some.ensures.steps.still k h),
)

pub loop-k-preserved : goal.loop-k-preserved
unfolding Within
loop-k-preserved c = (tt {0}, tt {0}, c.loop-k.invariant.2, λ k h. c.loop-k.invariant.3 k (c.in-Some.ensures.steps.still k h))

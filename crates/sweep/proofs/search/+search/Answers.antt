-- `sweep::search::search` meets its contract. Its answers cite laws of `Steps`, `Adds` and `OneGauge`. Assumes nothing.
use Rattle.std.proofs.Common.{◌≡◌, ◌⊎◌, ◌-◌, ◌^◌, bit_and, sym, subst}
use Rattle.std.specs.Prelude.{Err}
use mathlib.Core.Logic.{⊎_elim}
use native.Mathlib.Nat.{lt_of_lt_of_le, lt_of_le_of_lt, le_of_eq}
use Prim.Native.Nat.{ℕ}
use borrow.Author.Rules.{rules}
use Rattle.gauges.proofs.Laws.{within_le, within_trans}
use Rattle.gauges.proofs.Taking.{taken_is}
use Rattle.sweep.proofs.Steps.{Loop, Turn, poor_added, leaf_wanted, leaf_adds, shut_added, loop_start, loop_end, turn_node, turn_falls, turn_absent, turn_loop, turn_adds}
use Rattle.sweep.proofs.search.+search.Goals as goal
use Rattle.sweep.proofs.search.+search.Goals.{After-links-close}

pub returns-then-q-ne0 : goal.returns-then-q-ne0
returns-then-q-ne0 t c = shut_added c.requires.node c.if-p-eq0.true c.requires.loose c.ranges.q.fits c.if-q-ne0.true

pub returns-then-not-worth : goal.returns-then-not-worth
returns-then-not-worth t c = poor_added c.requires.loose (c.worth.ensures.fails c.if-not-worth.true)

-- where no candidate is left and the search went on, no gauge is excluded
none_excluded : {p q : ℕ} → (p ≡ 0) × (q ≡ 0) ⊎ (p ≡ 0 → ⊥) → p ≡ 0 → q ≡ 0
none_excluded w e = ⊎_elim (λ a. a.1) (λ f. absurd (f e)) w

pub append-requires : goal.append-requires
append-requires t c = (
  c.requires.loose,
  c.requires.absent _ (leaf_wanted c.requires.node c.if-p-eq0-2.true (none_excluded c.else-p-eq0.either c.if-p-eq0-2.true) (c.worth.ensures.holds c.if-not-worth.false)),
)

pub returns-then-p-eq0-2 : goal.returns-then-p-eq0-2
returns-then-p-eq0-2 t c =
    leaf_adds c.requires.node c.if-p-eq0-2.true (none_excluded c.else-p-eq0.either c.if-p-eq0-2.true)
    (c.worth.ensures.holds c.if-not-worth.false) _ _ _ _ c.append.ensures

pub loop-v-init : goal.loop-v-init
loop-v-init t c =
    let all : c.into_iter-v-iterator.result.left ≡ bit_and c.args.p ((2 ^ 64 - 1) - c.links.result) = search rules in (
      tt {0},
      tt {0},
      subst (Loop c.args.adj.now c.args.sought.now c.args.r c.args.p c.args.q c.pivot-k.result c.args.rows.now c.args.count c.args.rows.now c.args.count c.args.p c.args.q) (sym all)
          (loop_start c.requires.loose c.requires.absent c.ranges.p.fits c.links.type_inv c.links.ensures),
    )

-- a turn of the loop, where its gauge and the gauges linked to it are known
turn : (t : ℕ) (c : After-links-close t)
    → Turn c.args.adj.now c.args.r c.args.p c.args.q c.pivot-k.result c.loop-v.cand c.loop-v.gone c.loop-v.v-iterator.left c.in-Some.v c.only-one.result c.links-close.result
turn t c =
    record {
      graph = c.requires.graph;
      node = c.requires.node;
      fits = c.ranges.p.fits;
      left = c.loop-v.invariant.2.left;
      one = c.only-one.ensures;
      one_fits = c.only-one.type_inv;
      is_near = c.links-close.ensures;
      small = c.in-Some.ensures.steps.gauge;
      hit = c.in-Some.ensures.steps.there;
    }

pub search-requires : goal.search-requires
search-requires t c =
    let w = turn t (goal.at.search-requires t c).After-links-close in (
      lt_of_lt_of_le (turn_falls w) (le_of_eq c.decreases),
      record { graph = w.graph; node = turn_node w; loose = c.loop-v.invariant.2.added.loose; absent = turn_absent w c.loop-v.invariant.2 },
    )

pub loop-v-preserved : goal.loop-v-preserved
loop-v-preserved t c =
    let w = turn t (goal.at.loop-v-preserved t c).After-links-close in
    let next = turn_loop w {o'' = c.search.new.rows} c.loop-v.invariant.2 c.in_ok-found.ensures in
    let small = lt_of_le_of_lt (within_le _ _ (within_trans _ _ _ w.left.tried w.left.fewer)) w.fits in
    let left = taken_is small c.only-one.type_inv c.only-one.ensures c.in-Some.ensures.steps in
    (tt {0}, tt {0}, subst (Loop _ _ _ _ _ _ _ _ _ _ _ _) (sym left) next)

pub returns-in_err-found : goal.returns-in_err-found
returns-in_err-found t c =
    let w = turn_adds (turn t (goal.at.returns-in_err-found t c).After-links-close) c.loop-v.invariant.2 c.search.new.rows (Err _) c.in_err-found.ensures in search rules

pub returns : goal.returns
returns t c = loop_end c.requires.graph c.requires.node c.pivot-k.ensures c.loop-v.invariant.2 c.in-None.ensures.steps.0

-- No second reply fits: each contract of this crate fixes the result for every input. Assumes nothing.
use mathlib.Core.Bool.{Bool}
use mathlib.Core.Logic.{⊎_elim, dite}
use mathlib.Core.Path.{◌≡◌, refl, sym, ap, subst, ◌∙◌}
use Prim.Native.Nat.{ℕ, ◌≤◌, ◌<◌}
use native.Mathlib.Decide.{ℕ_discrete, dec_le}
use native.Mathlib.Omega.{arith}
use lib.Count.{ones}
use Rattle.gauges.specs.Flags.{Tells}
use Rattle.gauges.specs.Sets.{Member, Within, Only, Lowest, Below}
use Rattle.std.specs.Prelude.{Option, Some, None}
use Rattle.gauges.specs.Members.{Taken, Takes}
use Rattle.gauges.specs.declared.members.Members.{Members}
use Rattle.gauges.proofs.Flags.{tells_one}
use Rattle.gauges.proofs.Laws.{member_ext, member_zero}

-- of `has`
pub has_one : (k m : ℕ) {a b : Bool} → Tells a (Member k m) → Tells b (Member k m) → a ≡ b
has_one k m = tells_one

-- of `only`
pub only_one : {k a b : ℕ} → Only k a → Only k b → a ≡ b
unfolding Within
only_one {k} {a} {b} p q = dite (dec_le 64 k) (λ h. p.past h ∙ sym (q.past h)) (λ h. member_ext a b (within p q (omega arith)) (within q p (omega arith)))
  where
    within : {a b : ℕ} → Only k a → Only k b → k < 64 → Within a b
    within {b = b} p q h j x = subst (λ (n : ℕ). Member n b) (sym (p.just j x)) (q.there h)

-- of `size`
pub size_one : (m : ℕ) {a b : ℕ} → a ≡ ones m → b ≡ ones m → a ≡ b
size_one m p q = p ∙ sym q

-- of `lowest`
pub lowest_one : {m a b : ℕ} → Lowest m a → Lowest m b → a ≡ b
lowest_one {m} {a} {b} p q = dite (ℕ_discrete m 0)
    (λ e. p.empty e ∙ sym (q.empty e))
    (λ f. let p-first : b ≤ a = least q p f in let q-first : a ≤ b = least p q f in omega arith)
  where
    least : {a b : ℕ} → Lowest m a → Lowest m b → (m ≡ 0 → ⊥) → a ≤ b
    least {a} {b} p q f = dite (dec_le a b) (λ h. h) (λ h. absurd (p.first b (omega arith) (q.there f)))

-- of `below`
pub below_one : {n a b : ℕ} → Below n a → Below n b → a ≡ b
below_one p q = p.is ∙ sym q.is

-- of `Members::next`
module _ {m k j l r : ℕ} (p : Taken m k l) (q : Taken m j r) where
  taken_same : k ≡ j
  taken_same = omega (arith, p.lowest j q.there, q.lowest k p.there)

  taken_within : Within l r
  unfolding Within
  taken_within i h = ⊎_elim (λ e. absurd (p.gone (subst (λ (n : ℕ). Member n l) (e ∙ sym taken_same) h))) (λ x. x) (q.kept i (p.still i h))

pub members_one : (s : Members) {a b : Option ℕ} {u v : Members} → Takes s a u → Takes s b v → (a ≡ b) × (u ≡ v)
members_one s {a = Some k} {b = Some j} {u = u} {v = v} p q =
    let rest : u.left ≡ v.left = member_ext u.left v.left (taken_within p q) (taken_within q p) in
    (ap Some (taken_same p q), λ i. record { left = rest i })
members_one s {a = Some k} {b = None} p q = absurd (member_zero k (subst (Member k) q.0 p.there))
members_one s {a = None} {b = Some j} p q = absurd (member_zero j (subst (Member j) p.0 q.there))
members_one s {a = None} {b = None} {u = u} {v = v} p q = let rest : u.left ≡ v.left = p.1 ∙ sym q.1 in (refl, λ i. record { left = rest i })

-- Sets of gauges below a count: how large they are, whether one lies within another, and whether all their pairs have a property. Assumes nothing.
use mathlib.Core.Logic.{◌⊎◌, inl, inr, ⊎_elim, dite}
use Prim.Native.Nat.{ℕ, ◌-◌, ◌^◌, ◌≤◌, ◌<◌}
use lib.Count.{ones, ones-le}
use lib.Pow.{lt_of_le_ones}
use Rattle.gauges.specs.Sets.{Member, Within}
use Rattle.gauges.proofs.Bounded.{Some, implied, all_or_some}
use Rattle.gauges.proofs.Laws.{member_ones, member_dec, within_le}

-- a set of gauges below g is a number below 2 ^ g; member_lt is the converse
pub known_lt : (m g : ℕ) → ((k : ℕ) → Member k m → k < g) → m < 2 ^ g
unfolding Within
known_lt m g known = lt_of_le_ones g (within_le m (2 ^ g - 1) (λ k h. member_ones k g (known k h)))

-- it has g members at most
pub known_ones : (m g : ℕ) → ((k : ℕ) → Member k m → k < g) → ones m ≤ g
known_ones m g known = ones-le g m (known_lt m g known)

-- a set lies within another, or a member is found that the other lacks
pub within_or_lacks : (a b g : ℕ) → ((k : ℕ) → Member k a → k < g) → Within a b ⊎ Some (λ k. Member k a × (Member k b → ⊥)) g
unfolding Within
within_or_lacks a b g known = ⊎_elim (λ all. inl (λ k h. all k (known k h) h)) inr (all_or_some (λ k. implied (member_dec k a) (member_dec k b)) g)

-- ---- the pairs of a set

-- two members u < v of m with R u v
pub record Pair (m : ℕ) (R : ℕ → ℕ → Type 0) : Type 0 where
  pub one : ℕ
  pub other : ℕ
  pub less : one < other
  pub one_in : Member one m
  pub other_in : Member other m
  pub is : R one other

-- R u v for all members u < v of m
abbrev pub Each : ℕ → (ℕ → ℕ → Type 0) → Type 0
Each m R = (u v : ℕ) → Member u m → Member v m → u < v → R u v

-- every two members have R, or a pair is found that does not
unfoldable pub each_or_pair : {R : ℕ → ℕ → Type 0} → ((u v : ℕ) → Dec (R u v)) → (m n : ℕ) → ((k : ℕ) → Member k m → k < n)
    → Each m R ⊎ Pair m (λ u v. R u v → ⊥)
unfolding all_or_some member_dec
each_or_pair {R} d m n known =
    ⊎_elim
    (λ all. inl (λ u v p q l. all v (known v q) q u l p))
    (λ s. let r = s.holds.1 in inr (record { one = r.number; other = s.number; less = r.below; one_in = r.holds.0; other_in = s.holds.0; is = r.holds.1 }))
    (all_or_some others n)
  where
    others : (v : ℕ) → (Member v m → (u : ℕ) → u < v → Member u m → R u v) ⊎ (Member v m × Some (λ u. Member u m × (R u v → ⊥)) v)
    others v =
        dite (member_dec v m)
        (λ q. ⊎_elim (λ all. inl (λ _. all)) (λ s. inr (q, s)) (all_or_some (λ u. implied (member_dec u m) (d u v)) v))
        (λ f. inl (λ q. absurd (f q)))

-- Deciding, also over the numbers below a bound: one of them has a property, or none has. What is unfoldable computes: it decides at numerals. Assumes nothing.
use mathlib.Core.Logic.{◌⊎◌, inl, inr, ⊎_elim, dite}
use mathlib.Core.Path.{sym, subst}
use Prim.Native.Nat.{ℕ, zero, suc, ◌+◌, ◌<◌}
use native.Mathlib.Decide.{ℕ_discrete}
use native.Mathlib.Nat.{le_refl, not-suc-le-zero}
use native.Mathlib.Omega.{arith}

-- ---- two statements

-- B is decided, if B needs A, A is decided, and B is decided where A holds
abbrev pub given : {A B : Type 0} → Dec A → (B → A) → (A → Dec B) → Dec B
given (yes a) needs then = then a
given (no f) needs then = no (λ b. f (needs b))

-- B follows from A, or A holds and B does not
abbrev pub implied : {A B : Type 0} → Dec A → Dec B → (A → B) ⊎ (A × (B → ⊥))
implied (yes a) (yes b) = inl (λ _. b)
implied (yes a) (no f) = inr (a, f)
implied (no f) d = inl (λ a. absurd (f a))

-- ---- the numbers below a bound

-- P holds of one of the numbers below n
pub record Some (P : ℕ → Type 0) (n : ℕ) : Type 0 where
  pub number : ℕ
  pub below : number < n
  pub holds : P number

-- P holds of none of them
pub record None (P : ℕ → Type 0) (n : ℕ) : Type 0 where
  pub none : (k : ℕ) → k < n → P k → ⊥

module _ {P : ℕ → Type 0} where
  pub none_yet : None P 0
  none_yet = record { none = λ k h. absurd (not-suc-le-zero h) }

  -- at n + 1, as code counts
  pub none_next : {n : ℕ} → None P n → (P n → ⊥) → None P (n + 1)
  none_next {n} f x = record { none = λ k h p. dite (ℕ_discrete k n) (λ e. x (subst P e p)) (λ d. f.none k (omega arith) p) }

-- every number below n has P, or one of them has Q, if each number has one or the other
unfoldable pub all_or_some : {P Q : ℕ → Type 0} → ((k : ℕ) → P k ⊎ Q k) → (n : ℕ) → ((k : ℕ) → k < n → P k) ⊎ Some Q n
all_or_some d zero = inl (λ k h. absurd (not-suc-le-zero h))
all_or_some {P} d (suc n) =
    ⊎_elim
    (λ all. ⊎_elim
    (λ p. inl (λ k h. dite (ℕ_discrete k n) (λ e. subst P (sym e) p) (λ f. all k (omega arith))))
    (λ q. inr (record { number = n; below = le_refl (suc n); holds = q }))
    (d n))
    (λ s. inr (record { number = s.number; below = omega (arith, s.below); holds = s.holds }))
    (all_or_some d n)

module _ {P : ℕ → Type 0} (d : (k : ℕ) → Dec (P k)) where
  pub some_or_none : (n : ℕ) → Some P n ⊎ None P n
  some_or_none n = ⊎_elim (λ f. inr (record { none = f })) inl (all_or_some (λ k. dite (d k) inr inl) n)

  -- what is decided of each number is decided of some number below n
  pub some_dec : (n : ℕ) → Dec (Some P n)
  some_dec n = ⊎_elim yes (λ f. no (λ s. f.none s.number s.below s.holds)) (some_or_none n)

-- What the functions of the crate compute, as the code has it. Assumes nothing.
use mathlib.Core.Bool.{false}
use mathlib.Core.Path.{◌≡◌, refl, sym, ap, subst, ◌∙◌}
use Prim.Native.Nat.{ℕ, ◌-◌, ◌*◌, ◌%◌, ◌^◌, ◌≤◌, ◌<◌, min}
use native.Mathlib.Omega.{arith}
use lib.Dec.{T, lit<}
use lib.Pow.{pow_pos, shl_exact}
use Rattle.gauges.specs.Flags.{Tells}
use Rattle.gauges.specs.Sets.{Member, Only, upto, Below}
use Rattle.gauges.proofs.Laws.{member_zero, member_pow, member_pow_eq, member_lt, upto_below}

pub tells_past : (k m : ℕ) → m < 2 ^ 64 → 64 ≤ k → Tells false (Member k m)
tells_past k m l h = record { holds = λ e. absurd (subst T (sym e) tt); fails = λ e p. omega (arith, member_lt k m 64 l p) }

-- a shift of 1 is a power of 2
shifted : (k : ℕ) → k < 64 → (1 * 2 ^ k) % 2 ^ 64 ≡ 2 ^ k
shifted k h = shl_exact 1 k 64 (lit< tt) (omega arith) ∙ omega arith

pub shifted_pos : (k : ℕ) → k < 64 → 1 ≤ (1 * 2 ^ k) % 2 ^ 64
shifted_pos k h = rw (shifted k h) (pow_pos k)

pub only_is : (k : ℕ) → k < 64 → Only k ((1 * 2 ^ k) % 2 ^ 64)
only_is k h = rw (shifted k h) (record { just = λ j p. member_pow_eq j k p; there = λ _. member_pow k; past = λ p. absurd (omega arith) })

pub only_past : (k : ℕ) → 64 ≤ k → Only k 0
only_past k h = record { just = λ j p. absurd (member_zero j p); there = λ p. absurd (omega arith); past = λ _. refl }

pub below_is : (n : ℕ) → n < 64 → Below n ((1 * 2 ^ n) % 2 ^ 64 - 1)
unfolding upto
below_is n h =
    let low : min n 64 ≡ n = omega arith in
    subst (Below n) (ap (λ (x : ℕ). 2 ^ x - 1) low ∙ ap (λ (x : ℕ). x - 1) (sym (shifted n h))) (upto_below n)

pub below_all : (n : ℕ) → 64 ≤ n → Below n ((2 ^ 64 - 1) - 0)
unfolding upto
below_all n h = let top : min n 64 ≡ 64 = omega arith in subst (Below n) (ap (λ (x : ℕ). 2 ^ x - 1) top) (upto_below n)

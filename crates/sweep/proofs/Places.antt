-- Fewer things than places: k things with places below k', no two at the same one and none at p, are fewer than k'. Assumes nothing.
use mathlib.Core.Logic.{dite}
use mathlib.Core.Path.{◌≡◌, refl}
use Prim.Native.Nat.{ℕ, zero, suc, ◌+◌, ◌-◌, ◌<◌}
use native.Mathlib.Decide.{dec_lt}
use native.Mathlib.Omega.{arith}

-- r is place x after place p was closed up: places above p are one lower
record Closed (p x r : ℕ) : Type 0 where
  low : x < p → r ≡ x
  high : p < x → r + 1 ≡ x

closed : (p x : ℕ) → (r : ℕ) × Closed p x r
closed p x = dite (dec_lt p x)
    (λ h. (x - 1, record { low = λ l. absurd (omega arith); high = λ l. omega arith }))
    (λ h. (x, record { low = λ l. refl; high = λ l. absurd (h l) }))

-- different places but p stay different
closed_apart : {p x y r s : ℕ} → (x ≡ p → ⊥) → (y ≡ p → ⊥) → Closed p x r → Closed p y s → r ≡ s → x ≡ y
closed_apart a b c d e = grind (arith, c.low, c.high, d.low, d.high)

-- and below k' - 1
closed_below : {k p x r : ℕ} → p < k → x < k → (x ≡ p → ⊥) → Closed p x r → r < k - 1
closed_below l h a c = grind (arith, c.low, c.high)

-- i is the i-th thing, and g its place
pub fewer_places : (k k' p : ℕ) (g : (i : ℕ) → i < k → ℕ) → ((i : ℕ) (h : i < k) → g i h < k') → ((i j : ℕ) (h : i < k) (l : j < k) → i < j → g i h ≡ g j l → ⊥)
    → p < k' → ((i : ℕ) (h : i < k) → g i h ≡ p → ⊥) → k < k'
fewer_places zero k' p g below apart h out = omega arith
fewer_places (suc m) k' p g below apart h out =
    let last : m < suc m = omega arith in
    let up : (i : ℕ) → i < m → i < suc m = λ i l. omega arith in
    let rest : m < k' - 1 = fewer_places m (k' - 1) (closed p (g m last)).0 (λ i l. (closed p (g i (up i l))).0)
    (λ i l. closed_below h (below i (up i l)) (out i (up i l)) (closed p (g i (up i l))).1)
    (λ i j a b l e. apart i j (up i a) (up j b) l (closed_apart (out i (up i a)) (out j (up j b)) (closed p (g i (up i a))).1 (closed p (g j (up j b))).1 e))
    (closed_below h (below m last) (out m last) (closed p (g m last)).1)
    (λ i l e. apart i m (up i l) last l (closed_apart (out i (up i l)) (out m last) (closed p (g i (up i l))).1 (closed p (g m last)).1 e)) in
    omega arith

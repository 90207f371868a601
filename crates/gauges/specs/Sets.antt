-- Sets of gauges: a number is the set of the gauges whose bits are 1. The size of a set is the number of its ones, `ones` of `lib.Count`.
-- Assumes nothing: these are definitions.
use Rattle.std.specs.Prelude.{Bool, ◌≡◌, ℕ, ◌-◌, ◌/◌, ◌%◌, ◌^◌, ◌≤◌, ◌<◌, min, eqb}

-- gauge k is in the set m
unfoldable pub Member : ℕ → ℕ → Type 0
Member k m = m / 2 ^ k % 2 ≡ 1

-- the set m as a test, which computes: it says true of the gauges that are in m
abbrev pub set_of : ℕ → ℕ → Bool
set_of m k = eqb (m / 2 ^ k % 2) 1

-- each gauge of m is in n
unfoldable pub Within : ℕ → ℕ → Type 0
Within m n = (k : ℕ) → Member k m → Member k n

-- r is the set of gauge k alone, or empty where k is no gauge
pub record Only (k r : ℕ) : Type 0 where
  pub just : (j : ℕ) → Member j r → j ≡ k
  pub there : k < 64 → Member k r
  pub past : 64 ≤ k → r ≡ 0

-- r is the lowest gauge of m, or 64 where m is empty
pub record Lowest (m r : ℕ) : Type 0 where
  pub bound : r ≤ 64
  pub empty : m ≡ 0 → r ≡ 64
  pub gauge : (m ≡ 0 → ⊥) → r < 64
  pub there : (m ≡ 0 → ⊥) → Member r m
  pub first : (j : ℕ) → j < r → Member j m → ⊥

-- the set of the gauges below n, which are 64 at most
unfoldable pub upto : ℕ → ℕ
upto n = 2 ^ min n 64 - 1

-- r is the set of the gauges below n
pub record Below (n r : ℕ) : Type 0 where
  pub is : r ≡ upto n
  pub each : (k : ℕ) → k < n → k < 64 → Member k r
  pub just : (k : ℕ) → Member k r → (k < n) × (k < 64)

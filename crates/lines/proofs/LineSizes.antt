-- How long the three kinds of lines are, and how long at most, for numbers of 64 bits (a reason has 32). Assumes nothing.
use mathlib.Core.Path.{◌≡◌}
use Prim.Native.Nat.{ℕ, ◌+◌, ◌^◌, ◌≤◌, ◌<◌}
use native.Mathlib.Nat.{lt_of_lt_of_le}
use native.Mathlib.Omega.{arith}
use lib.Dec.{lit≤}
use lib.ListN.{length, length-append}
use Rattle.lines.specs.Text.{decimal, gauges_text, header_of, row_of, refusal_of}
use Rattle.lines.proofs.Decimals.{length_most, length_u64}
use Rattle.lines.proofs.GaugeTexts.{gauges_few}

pub header_size : (n : ℕ) → length (header_of n) ≡ 7 + length (decimal n) + 1
unfolding header_of
header_size n = simp length-append (omega arith)

pub row_size : (b e m : ℕ) → length (row_of b e m) ≡ length (decimal b) + 1 + length (decimal e) + 1 + length (gauges_text m) + 1
unfolding row_of
row_size b e m = simp length-append (omega arith)

pub refusal_size : (n p : ℕ) → length (refusal_of n p) ≡ 8 + length (decimal n) + 1 + length (decimal p) + 1
unfolding refusal_of
refusal_size n p = simp length-append (omega arith)

-- ---- at most

pub header_most : (n : ℕ) → n < 2 ^ 64 → length (header_of n) ≤ 28
header_most n h = omega (arith, header_size n, length_u64 n h)

pub row_most : (b e m : ℕ) → b < 2 ^ 64 → e < 2 ^ 64 → length (row_of b e m) ≤ 235
row_most b e m h k = omega (arith, row_size b e m, length_u64 b h, length_u64 e k, gauges_few m)

-- a row whose hours have ten digits at most
pub row_in_time : (b e m : ℕ) → b < 10 ^ 10 → e < 10 ^ 10 → length (row_of b e m) ≤ 215
row_in_time b e m h k = omega (arith, row_size b e m, length_most 9 b h, length_most 9 e k, gauges_few m)

pub refusal_most : (n p : ℕ) → n < 2 ^ 32 → p < 2 ^ 64 → length (refusal_of n p) ≤ 40
refusal_most n p h k = omega (arith, refusal_size n p, length_most 9 n (lt_of_lt_of_le h (lit≤ tt)), length_u64 p k)

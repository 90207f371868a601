-- Lines of document 01, and the ends of the ranges, by computing. Assumes nothing.
use mathlib.Core.List.{[], ◌∷◌}
use mathlib.Core.Path.{◌≡◌, refl}
use Prim.Native.Nat.{◌-◌, ◌^◌}
use lib.ListN.{length}
use Rattle.lines.specs.Text.{digits, decimal, commas, gauges_below, gauges_text, header_of, row_of, refusal_of}

-- "groups 7"
pub header_7 : header_of 7 ≡ 103 ∷ 114 ∷ 111 ∷ 117 ∷ 112 ∷ 115 ∷ 32 ∷ 55 ∷ 10 ∷ []
unfolding digits decimal header_of
header_7 = refl

-- "groups 0"
pub header_0 : header_of 0 ≡ 103 ∷ 114 ∷ 111 ∷ 117 ∷ 112 ∷ 115 ∷ 32 ∷ 48 ∷ 10 ∷ []
unfolding digits decimal header_of
header_0 = refl

-- "1 9 0,1"
pub row_1_9 : row_of 1 9 3 ≡ 49 ∷ 32 ∷ 57 ∷ 32 ∷ 48 ∷ 44 ∷ 49 ∷ 10 ∷ []
unfolding digits decimal commas gauges_below gauges_text row_of
row_1_9 = refl

-- "5 9 0,1,2"
pub row_5_9 : row_of 5 9 7 ≡ 53 ∷ 32 ∷ 57 ∷ 32 ∷ 48 ∷ 44 ∷ 49 ∷ 44 ∷ 50 ∷ 10 ∷ []
unfolding digits decimal commas gauges_below gauges_text row_of
row_5_9 = refl

-- "10 12 1,2,3"
pub row_10_12 : row_of 10 12 14 ≡ 49 ∷ 48 ∷ 32 ∷ 49 ∷ 50 ∷ 32 ∷ 49 ∷ 44 ∷ 50 ∷ 44 ∷ 51 ∷ 10 ∷ []
unfolding digits decimal commas gauges_below gauges_text row_of
row_10_12 = refl

-- "0 9 0,63"
pub row_63 : row_of 0 9 9223372036854775809 ≡ 48 ∷ 32 ∷ 57 ∷ 32 ∷ 48 ∷ 44 ∷ 54 ∷ 51 ∷ 10 ∷ []
unfolding digits decimal commas gauges_below gauges_text row_of
row_63 = refl

-- "5 9 ", a row with no gauge
pub row_none : row_of 5 9 0 ≡ 53 ∷ 32 ∷ 57 ∷ 32 ∷ 10 ∷ []
unfolding digits decimal commas gauges_below gauges_text row_of
row_none = refl

-- "refused 8 1"
pub refused_8_1 : refusal_of 8 1 ≡ 114 ∷ 101 ∷ 102 ∷ 117 ∷ 115 ∷ 101 ∷ 100 ∷ 32 ∷ 56 ∷ 32 ∷ 49 ∷ 10 ∷ []
unfolding digits decimal refusal_of
refused_8_1 = refl

-- "18446744073709551615", the largest number of 64 bits
pub decimal_last : decimal (2 ^ 64 - 1)
    ≡ 49 ∷ 56 ∷ 52 ∷ 52 ∷ 54 ∷ 55 ∷ 52 ∷ 52 ∷ 48 ∷ 55 ∷ 51 ∷ 55 ∷ 48 ∷ 57 ∷ 53 ∷ 53 ∷ 49 ∷ 54 ∷ 49 ∷ 53 ∷ []
unfolding digits decimal
decimal_last = refl

-- the longest row: two numbers of 20 digits and all 64 gauges
pub row_longest : length (row_of (2 ^ 64 - 1) (2 ^ 64 - 1) (2 ^ 64 - 1)) ≡ 224
unfolding digits decimal commas gauges_below gauges_text row_of
row_longest = refl

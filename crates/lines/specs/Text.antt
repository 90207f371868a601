-- The text of the replies as document 01 has it, byte by byte: numbers in decimal, gauges parted by commas, and the three kinds of lines.
-- Assumes nothing: these are definitions.
use Rattle.std.specs.Prelude.{Bool, true, false, List, [], ◌∷◌, ◌++◌, ℕ, zero, suc, ◌+◌, ◌*◌, ◌/◌, ◌%◌, ltb, length, get_or}
use Rattle.gauges.specs.Sets.{set_of}

-- the first of two lists if the test says so, and else the second
abbrev pub by_test : Bool → List ℕ → List ℕ → List ℕ
by_test true a b = a
by_test false a b = b

-- ---- numbers

-- The digits of n, as bytes from 48, "0", on: n alone if n is below 10, which the flag says, and else those of n / 10 and then the last one.
-- The fuel is there for antt to see that this ends; any fuel above n is enough.
unfoldable pub digits : ℕ → Bool → ℕ → List ℕ
digits zero small n = []
digits (suc fuel) true n = (48 + n) ∷ []
digits (suc fuel) false n = digits fuel (ltb (n / 10) 10) (n / 10) ++ ((48 + n % 10) ∷ [])

-- n in decimal, without leading zeros
unfoldable pub decimal : ℕ → List ℕ
decimal n = digits (suc n) (ltb n 10) n

-- numbers in decimal, parted by commas
unfoldable pub commas : List ℕ → List ℕ
commas [] = []
commas (n ∷ []) = decimal n
commas (n ∷ m ∷ ms) = decimal n ++ (44 ∷ commas (m ∷ ms))

-- ---- gauges

-- the gauges of the set m that are below n, ascending
unfoldable pub gauges_below : ℕ → ℕ → List ℕ
gauges_below m zero = []
gauges_below m (suc k) = gauges_below m k ++ by_test (set_of m k) (k ∷ []) []

-- the gauges of the set m, of the 64 gauges 0..63, parted by commas
unfoldable pub gauges_text : ℕ → List ℕ
gauges_text m = commas (gauges_below m 64)

-- ---- lines

-- " "
abbrev pub space : List ℕ
space = 32 ∷ []

-- the end of a line
abbrev pub line_feed : List ℕ
line_feed = 10 ∷ []

-- "groups "
abbrev pub groups_word : List ℕ
groups_word = 103 ∷ 114 ∷ 111 ∷ 117 ∷ 112 ∷ 115 ∷ 32 ∷ []

-- "refused "
abbrev pub refused_word : List ℕ
refused_word = 114 ∷ 101 ∷ 102 ∷ 117 ∷ 115 ∷ 101 ∷ 100 ∷ 32 ∷ []

-- the line above the rows: how many they are
unfoldable pub header_of : ℕ → List ℕ
header_of count = groups_word ++ decimal count ++ line_feed

-- the line of a row: its begin, its end and its gauges
unfoldable pub row_of : ℕ → ℕ → ℕ → List ℕ
row_of begin end members = decimal begin ++ space ++ decimal end ++ space ++ gauges_text members ++ line_feed

-- the line of a refusal: the reason and the place
unfoldable pub refusal_of : ℕ → ℕ → List ℕ
refusal_of reason place = refused_word ++ decimal reason ++ space ++ decimal place ++ line_feed

-- ---- lists

-- the line of row i of a list: three numbers a row, begin, end, members
abbrev pub row_at : List ℕ → ℕ → List ℕ
row_at rows i = row_of (get_or rows (3 * i) 0) (get_or rows (3 * i + 1) 0) (get_or rows (3 * i + 2) 0)

-- the lines of the first n rows
unfoldable pub rows_of : List ℕ → ℕ → List ℕ
rows_of rows zero = []
rows_of rows (suc n) = rows_of rows n ++ row_at rows n

-- the text of a list of k rows: the line above them, then a line a row
abbrev pub lines_of : List ℕ → ℕ → List ℕ
lines_of rows k = header_of k ++ rows_of rows k

-- the text of all whole rows that are lent
abbrev pub list_of : List ℕ → List ℕ
list_of rows = lines_of rows (length rows / 3)

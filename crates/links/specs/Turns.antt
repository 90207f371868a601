-- The order in which reasons are tried. Assumes nothing: these are definitions.
use Rattle.std.specs.Prelude.{Bool, true, false, List, [], ◌∷◌, ℕ, suc, eqb}

-- The reasons of document 01 for refusing a table, a question or a list, the one tried first in front: 1, 2 and 3; of each link 4 to 8; of a question 10, 11
-- and 12 after 8; and 9 comes last. A further reason is put into this list where it is tried.
abbrev pub reasons : List ℕ
reasons = 1 ∷ 2 ∷ 3 ∷ 4 ∷ 5 ∷ 6 ∷ 7 ∷ 8 ∷ 10 ∷ 11 ∷ 12 ∷ 9 ∷ []

-- 0 if the test says so, else one more than n
abbrev pub nought_if : Bool → ℕ → ℕ
nought_if true n = 0
nought_if false n = suc n

-- how many numbers of a list stand before n, all of them if n is not there
unfoldable pub turn_in : List ℕ → ℕ → ℕ
turn_in [] n = 0
turn_in (m ∷ l) n = nought_if (eqb m n) (turn_in l n)

-- the turn of reason n: how many reasons are tried before it
abbrev pub turn : ℕ → ℕ
turn n = turn_in reasons n

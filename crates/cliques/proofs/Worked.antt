-- A first check of the definitions by computing: the lists of two tables. Assumes nothing.
use mathlib.Core.List.{List, [], ◌∷◌}
use mathlib.Core.Path.{◌≡◌, refl}
use Prim.Native.Nat.{ℕ}
use Rattle.links.specs.Links.{Joined}
use Rattle.cliques.specs.Lists.{Complete}
use Rattle.cliques.specs.Buffers.{row}
use Rattle.cliques.proofs.Flat.{flat, flat_listed}
use Rattle.cliques.proofs.Tables.{table_rows, table_complete}

-- the table T of document 01, with 4 gauges
abbrev pub T : List ℕ
T = 1 ∷ 9 ∷ 0 ∷ 1 ∷ 3 ∷ 12 ∷ 1 ∷ 2 ∷ 5 ∷ 14 ∷ 0 ∷ 2 ∷ 7 ∷ 20 ∷ 2 ∷ 3 ∷ 10 ∷ 18 ∷ 1 ∷ 3 ∷ []

-- the seven rows of its list
abbrev pub T-rows : List ℕ
T-rows = 1 ∷ 9 ∷ 3 ∷ 3 ∷ 12 ∷ 6 ∷ 5 ∷ 9 ∷ 7 ∷ 5 ∷ 14 ∷ 5 ∷ 7 ∷ 20 ∷ 12 ∷ 10 ∷ 12 ∷ 14 ∷ 10 ∷ 18 ∷ 10 ∷ []

-- they are what the reference computes,
pub T-computed : flat (table_rows T 4) ≡ T-rows
unfolding table_rows
T-computed = refl

-- and so the complete list
pub T-complete : Complete (Joined T) 4 (row T-rows) 7
unfolding table_rows
T-complete = flat_listed (table_rows T 4) (table_complete T 4)

-- the first gauge and the last of 64
pub ends_computed : flat (table_rows (0 ∷ 1 ∷ 0 ∷ 63 ∷ []) 64) ≡ 0 ∷ 1 ∷ 9223372036854775809 ∷ []
unfolding table_rows
ends_computed = refl

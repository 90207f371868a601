-- Rows written out into a buffer, three numbers each; a list so written is a list in the buffer. Assumes nothing.
use mathlib.Core.List.{List, [], ◌∷◌}
use mathlib.Core.Path.{◌≡◌, refl, sym, ap, ◌∙◌}
use Prim.Native.Nat.{ℕ, zero, suc, ◌+◌, ◌*◌}
use native.Mathlib.Omega.{arith}
use lib.ListN.{length, get_or}
use Rattle.cliques.specs.Groups.{Row}
use Rattle.cliques.specs.Lists.{Listed}
use Rattle.cliques.specs.Buffers.{row}
use Rattle.cliques.proofs.Rows.{same_row}
use Rattle.cliques.proofs.OneList.{listed_at}
use Rattle.cliques.proofs.RowLists.{row_at}

-- the rows of a list as the numbers of a buffer
abbrev pub flat : List Row → List ℕ
flat [] = []
flat (c ∷ rs) = c.begin ∷ c.end ∷ c.members ∷ flat rs

-- three numbers a row
pub length_flat : (rs : List Row) → length (flat rs) ≡ 3 * length rs
length_flat [] = refl
length_flat (c ∷ rs) = omega (arith, length_flat rs)

-- row i of the buffer is the i-th row of the list
pub row_flat : (rs : List Row) (i : ℕ) → row (flat rs) i ≡ row_at rs i
row_flat [] i = refl
row_flat (c ∷ rs) zero = refl
row_flat (c ∷ rs) (suc i) = past ∙ row_flat rs i
  where
    at : (n m : ℕ) → n ≡ suc (suc (suc m)) → get_or (flat (c ∷ rs)) n 0 ≡ get_or (flat rs) m 0
    at n m e = ap (λ (x : ℕ). get_or (flat (c ∷ rs)) x 0) e

    past : row (flat (c ∷ rs)) (suc i) ≡ row (flat rs) i
    past = same_row (at (3 * suc i) (3 * i) (omega arith)) (at (3 * suc i + 1) (3 * i + 1) (omega arith)) (at (3 * suc i + 2) (3 * i + 2) (omega arith))

-- a list that is written out is a list in the buffer
pub flat_listed : {P : Row → Type 0} {k : ℕ} (rs : List Row) → Listed P (row_at rs) k → Listed P (row (flat rs)) k
flat_listed rs C = listed_at (λ i h. sym (row_flat rs i)) C

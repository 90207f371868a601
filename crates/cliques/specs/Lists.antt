-- Lists of rows: their order, and the list of all rows of a set. A list is a sequence of rows, of which the first k count; how a buffer is read as rows is said in
-- `Buffers` alone. Assumes nothing: these are definitions.
use Rattle.std.specs.Prelude.{◌≡◌, ℕ, ◌<◌}
use Rattle.cliques.specs.Families.{Family}
use Rattle.cliques.specs.Groups.{Row, Group}

-- c is one of the first k rows
abbrev pub InList : (ℕ → Row) → ℕ → Row → Type 0
InList rows k c = (i : ℕ) × (i < k) × (rows i ≡ c)

-- Order of the list: by begin, then end, then members, each as a number, smallest first.
pub data Before (c d : Row) : Type 0 where
  by_begin : c.begin < d.begin → Before c d
  by_end : c.begin ≡ d.begin → c.end < d.end → Before c d
  by_members : c.begin ≡ d.begin → c.end ≡ d.end → c.members < d.members → Before c d

-- The first k rows stand in this order, no two of them equal, and each is of the set P.
pub record Holds (P : Row → Type 0) (rows : ℕ → Row) (k : ℕ) : Type 0 where
  pub ordered : (i j : ℕ) → i < j → j < k → Before (rows i) (rows j)
  pub sound : (i : ℕ) → i < k → P (rows i)

-- They are the list of P: every row of P is among them.
pub record Listed (P : Row → Type 0) (rows : ℕ → Row) (k : ℕ) : Type 0 where
  pub holds : Holds P rows k
  pub complete : (c : Row) → P c → InList rows k c

-- They are the list of the groups.
abbrev pub Complete : Family → ℕ → (ℕ → Row) → ℕ → Type 0
Complete J g = Listed (Group J g)

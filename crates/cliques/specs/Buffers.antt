-- Lent buffers of numbers, read as rows: three numbers a row. Assumes nothing: these are definitions.
use Rattle.std.specs.Prelude.{◌≡◌, List, ℕ, ◌+◌, ◌*◌, ◌/◌, ◌≤◌, ◌<◌, length, get_or}
use Rattle.cliques.specs.Groups.{Row}
use Rattle.cliques.specs.Lists.{Listed}

-- row i of a buffer: begin, end, members
abbrev pub row : List ℕ → ℕ → Row
row l i = record { begin = get_or l (3 * i) 0; end = get_or l (3 * i + 1) 0; members = get_or l (3 * i + 2) 0 }

-- the whole rows of a buffer: its length divided by three, rounded down
abbrev pub whole_rows : List ℕ → ℕ
whole_rows l = length l / 3

-- the first 3k numbers are the list of the rows of P, the others are unchanged
pub record ListIn (P : Row → Type 0) (before after : List ℕ) (k : ℕ) : Type 0 where
  pub list : Listed P (row after) k
  pub fits : k ≤ whole_rows before
  pub size : length after ≡ length before
  pub rest : (i : ℕ) → 3 * k ≤ i → get_or after i 0 ≡ get_or before i 0

-- there are more rows of P than whole rows in the buffer: the list of them, wherever it stands, is longer
pub record TooMany (P : Row → Type 0) (before : List ℕ) : Type 0 where
  pub rows : ℕ → Row
  pub count : ℕ
  pub list : Listed P rows count
  pub more : whole_rows before < count

-- every number of the whole rows is 0, the one or two left over unchanged
pub record Cleared (before after : List ℕ) : Type 0 where
  pub size : length after ≡ length before
  pub zero : (i : ℕ) → i < 3 * whole_rows before → get_or after i 0 ≡ 0
  pub rest : (i : ℕ) → 3 * whole_rows before ≤ i → get_or after i 0 ≡ get_or before i 0

-- Reasons 1 to 8, 10, 11 and 12 for refusing a question, as document 01 has them: when each is given, in which order they are tried, and the first found.
-- Assumes nothing: these are definitions.
use Rattle.std.specs.Prelude.{◌⊎◌, List, ℕ, ◌^◌, ◌≤◌, ◌<◌, leb, ltb}
use Rattle.std.specs.Int.Count.{ones}
use Rattle.gauges.specs.Sets.{Member}
use Rattle.links.specs.Turns.{turn}
use Rattle.links.specs.Faults.{Given as TableGiven, Sooner as TableSooner, Fault, if_so, ◌or_else◌, table_fault}

-- ---- document 01's table: `Given t g m x y n p` says that reason n is given, at place p, of the question about members m over the span [x, y]

pub data Given (t : List ℕ) (g m x y : ℕ) : ℕ → ℕ → Type 0 where
  of_table : {n p : ℕ} → TableGiven t g n p → Given t g m x y n p
  unknown_member : {k : ℕ} → Member k m → g ≤ k → Given t g m x y 10 0
  few_members : ones m < 2 → Given t g m x y 11 0
  backward : y < x → Given t g m x y 12 0

-- Reason n' at place p' is tried before reason n at place p: 1 to 8 as for a table, and 10, 11, 12 come in order after 8.
abbrev pub Sooner : ℕ → ℕ → ℕ → ℕ → Type 0
Sooner n' p' n p = ((turn n' ≤ turn 8) × (turn n ≤ turn 8) × TableSooner n' p' n p) ⊎ ((turn 8 < turn n) × (turn n' < turn n))

-- reason n at place p is the first that is given
pub record First (t : List ℕ) (g m x y n p : ℕ) : Type 0 where
  pub given : Given t g m x y n p
  pub first : (n' p' : ℕ) → Sooner n' p' n p → Given t g m x y n' p' → ⊥

-- ---- the same by computing

-- the first fault of a question: that of its table, or 10, 11 or 12, which have place 0. A member bit at or above g makes a number of 2 ^ g or more.
unfoldable pub question_fault : List ℕ → ℕ → ℕ → ℕ → ℕ → Fault
question_fault t g m x y =
    table_fault t g
    or_else if_so (leb (2 ^ g) m) 10 0
    or_else if_so (ltb (ones m) 2) 11 0
    or_else if_so (ltb y x) 12 0

-- Reasons 1 to 8 for refusing a table, as document 01 has them: when each is given, in which order they are tried, and the first found.
-- Assumes nothing: these are definitions.
use Rattle.std.specs.Prelude.{Bool, true, false, ◌&&◌, ◌||◌, ◌⊎◌, ◌≡◌, List, ℕ, zero, suc, ◌%◌, ◌≤◌, ◌<◌, min, max, eqb, leb, ltb, length}
use Rattle.links.specs.Turns.{turn}
use Rattle.links.specs.Links.{count, begins, ends, one, other, Clash}

-- ---- document 01's table: `Given t g n p` says that reason n is given, at place p

pub data Given (t : List ℕ) (g : ℕ) : ℕ → ℕ → Type 0 where
  not_fours : (length t % 4 ≡ 0 → ⊥) → Given t g 1 0
  too_many : 2048 < count t → Given t g 2 0
  no_gauge : g ≡ 0 → Given t g 3 0
  many_gauges : 64 < g → Given t g 3 0
  unknown_one : {i : ℕ} → i < count t → g ≤ one t i → Given t g 4 i
  unknown_other : {i : ℕ} → i < count t → g ≤ other t i → Given t g 4 i
  same_gauge : {i : ℕ} → i < count t → one t i ≡ other t i → Given t g 5 i
  backward : {i : ℕ} → i < count t → ends t i < begins t i → Given t g 6 i
  too_late : {i : ℕ} → i < count t → 2147483647 < ends t i → Given t g 7 i
  shared : {i j : ℕ} → i < count t → j < i → Clash t j i → Given t g 8 i

-- Reason m at place q is tried before reason n at place p: 1, 2 and 3, which have place 0, in that order; then links from number 0 up, each for 4 to 8 in order.
abbrev pub Sooner : ℕ → ℕ → ℕ → ℕ → Type 0
Sooner m q n p = (q < p) ⊎ ((q ≡ p) × (turn m < turn n))

-- reason n at place p is the first that is given
pub record First (t : List ℕ) (g n p : ℕ) : Type 0 where
  pub given : Given t g n p
  pub first : (m q : ℕ) → Sooner m q n p → Given t g m q → ⊥

-- ---- the same by computing

-- what trying finds: nothing, or a reason and its place
pub data Fault : Type 0 where
  no_fault : Fault
  fault : (reason place : ℕ) → Fault

-- reason n at place p, if the test says so
abbrev pub if_so : Bool → ℕ → ℕ → Fault
if_so true n p = fault n p
if_so false n p = no_fault

infixl 20 ◌or_else◌
-- the first fault of two
abbrev pub ◌or_else◌ : Fault → Fault → Fault
no_fault or_else f = f
fault n p or_else f = fault n p

-- whether link i is one of gauges u and v
abbrev pub is_of : List ℕ → ℕ → ℕ → ℕ → Bool
is_of t i u v = (eqb (one t i) u && eqb (other t i) v) || (eqb (one t i) v && eqb (other t i) u)

-- whether links i and j are of the same two gauges and share an hour: the later of the begins is no later than the sooner of the ends
abbrev pub clash : List ℕ → ℕ → ℕ → Bool
clash t i j = is_of t i (one t j) (other t j) && leb (max (begins t i) (begins t j)) (min (ends t i) (ends t j))

-- whether one of the links below n and link i are so
unfoldable pub clash_below : List ℕ → ℕ → ℕ → Bool
clash_below t i zero = false
clash_below t i (suc n) = clash_below t i n || clash t n i

-- the first of 4 to 8 that link i is refused for
abbrev pub link_fault : List ℕ → ℕ → ℕ → Fault
link_fault t g i =
    if_so (leb g (one t i) || leb g (other t i)) 4 i
    or_else if_so (eqb (one t i) (other t i)) 5 i
    or_else if_so (ltb (ends t i) (begins t i)) 6 i
    or_else if_so (ltb 2147483647 (ends t i)) 7 i
    or_else if_so (clash_below t i i) 8 i

-- the first fault of the links below n
unfoldable pub links_fault : List ℕ → ℕ → ℕ → Fault
links_fault t g zero = no_fault
links_fault t g (suc n) = links_fault t g n or_else link_fault t g n

-- the first of 1 to 3 that the table as a whole is refused for
unfoldable pub head_fault : List ℕ → ℕ → Fault
head_fault t g =
    if_so (ltb 0 (length t % 4)) 1 0
    or_else if_so (ltb 2048 (count t)) 2 0
    or_else if_so (eqb g 0 || ltb 64 g) 3 0

-- the first fault of a table
unfoldable pub table_fault : List ℕ → ℕ → Fault
table_fault t g = head_fault t g or_else links_fault t g (count t)

-- the first fault of a table of spans: that of a table with all 64 gauges
unfoldable pub spans_fault : List ℕ → Fault
spans_fault t = table_fault t 64

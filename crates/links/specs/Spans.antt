-- Tables of spans: what the lister lists. Four numbers a span, like a link, of gauges below 64, and no two spans of one pair share an hour. An accepted table of
-- links is one; so is any other table of that form, whatever its spans stand for. Assumes nothing: these are definitions.
use Rattle.std.specs.Prelude.{Bool, true, false, ◌≡◌, List, ℕ, ◌%◌, ◌≤◌, ◌<◌, length, get_or}
use Rattle.links.specs.Links.{count, begins, ends, one, other, Apart}
use Rattle.links.specs.Lines.{ByBegin}

-- the numbers of t are a table of spans
pub record Spans (t : List ℕ) : Type 0 where
  pub whole : length t % 4 ≡ 0
  pub few : count t ≤ 2048
  pub known_one : (i : ℕ) → i < count t → one t i < 64
  pub known_other : (i : ℕ) → i < count t → other t i < 64
  pub two : (i : ℕ) → i < count t → one t i ≡ other t i → ⊥
  pub forward : (i : ℕ) → i < count t → begins t i ≤ ends t i
  pub in_time : (i : ℕ) → i < count t → ends t i ≤ 2147483647
  pub apart : Apart t

-- ---- for the contracts of internal functions

-- span i is of two gauges below 64, and ends no sooner than it begins and at a permitted hour
pub record Formed (t : List ℕ) (i : ℕ) : Type 0 where
  pub known_one : one t i < 64
  pub known_other : other t i < 64
  pub two : one t i ≡ other t i → ⊥
  pub forward : begins t i ≤ ends t i
  pub in_time : ends t i ≤ 2147483647

-- all spans are so
abbrev pub AllFormed : List ℕ → Type 0
AllFormed t = (i : ℕ) → i < count t → Formed t i

-- what holding each span against the latest of its pair takes: the line has every span, and a place of `free` is there for every pair
pub record Passes (t line free : List ℕ) : Type 0 where
  pub formed : AllFormed t
  pub size : length line ≡ count t
  pub known : (k : ℕ) → k < count t → get_or line k 0 < count t
  pub all : (r : ℕ) → r < count t → (k : ℕ) × (k < count t) × (get_or line k 0 ≡ r)
  pub pairs : length free ≡ 4096

-- the line is what putting the spans by begin came to
pub record Lined (t line : List ℕ) : Type 0 where
  pub before : List ℕ
  pub by : ByBegin t before line

-- what the quick test says, and what becomes of the lent line: yes, of a table of spans, and they stand in it by begin, if there is room for them; or no, and it
-- is unchanged
pub data LinesUp (t before : List ℕ) (reply : Bool) (after : List ℕ) : Type 0 where
  stands : reply ≡ true → Spans t → ByBegin t before after → LinesUp t before reply after
  stands_not : reply ≡ false → after ≡ before → LinesUp t before reply after

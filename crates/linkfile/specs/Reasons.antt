-- Reasons 20 to 25 for refusing a file, as document 01 has them: when each is given, in which order they are tried, and the first found; and the numbers of its links.
-- Assumes nothing: these are definitions.
use Rattle.std.specs.Prelude.{◌⊎◌, ◌≡◌, List, [], ◌++◌, ℕ, zero, suc, ◌+◌, ◌≤◌, ◌<◌, length}
use Rattle.linkfile.specs.Numbers.{number}
use Rattle.linkfile.specs.Records.{length_of, size_at, kind_at}
use Rattle.linkfile.specs.Reading.{next_at, link_at}

-- record i starts at a place: the first one at 0, each later one behind the one before it, unless that has kind 3, which ends the file
pub data Starts (bytes : List ℕ) : ℕ → ℕ → Type 0 where
  at_start : Starts bytes 0 0
  behind : {i at : ℕ} → Starts bytes i at → (kind_at bytes at ≡ 3 → ⊥) → Starts bytes (suc i) (next_at bytes at)

-- Document 01's table: `Given bytes room i k n p` says that the test in turn k at record i gives reason n, at place p. The turns are the tests at one record in their
-- order: 0 fewer than 4 bytes left, or fewer than the length says; 1 length below 2; 2 kind; 3 length for its kind; 4 no room in the lent numbers; 5 closing count;
-- 6 bytes after it, placed at the first of them. Elsewhere the place is the record's first byte. Record i + 1 has i links before it.
pub data Given (bytes : List ℕ) (room : ℕ) : ℕ → ℕ → ℕ → ℕ → Type 0 where
  no_length : {i at : ℕ} → Starts bytes i at → length bytes < at + 4 → Given bytes room i 0 20 at
  cut_off : {i at : ℕ} → Starts bytes i at → length bytes < next_at bytes at → Given bytes room i 0 20 at
  no_kind : {i at : ℕ} → Starts bytes i at → size_at bytes at < 2 → Given bytes room i 1 22 at
  not_opening : {at : ℕ} → Starts bytes 0 at → (kind_at bytes at ≡ 1 → ⊥) → Given bytes room 0 2 21 at
  not_later : {i at : ℕ} → Starts bytes (suc i) at → (kind_at bytes at ≡ 2 → ⊥) → (kind_at bytes at ≡ 3 → ⊥) → Given bytes room (suc i) 2 21 at
  other_length : {i at : ℕ} → Starts bytes i at → (size_at bytes at ≡ length_of (kind_at bytes at) → ⊥) → Given bytes room i 3 22 at
  no_room : {i at : ℕ} → Starts bytes (suc i) at → kind_at bytes at ≡ 2 → room ≤ i → Given bytes room (suc i) 4 25 at
  other_count : {i at : ℕ} → Starts bytes (suc i) at → kind_at bytes at ≡ 3 → (number 4 bytes (at + 6) ≡ i → ⊥) → Given bytes room (suc i) 5 23 at
  more_bytes : {i at : ℕ} → Starts bytes (suc i) at → kind_at bytes at ≡ 3 → next_at bytes at < length bytes → Given bytes room (suc i) 6 24 (next_at bytes at)

-- turn j at record h comes before turn k at record i: records one after another, and at each one its tests in their order
abbrev pub Sooner : ℕ → ℕ → ℕ → ℕ → Type 0
Sooner h j i k = (h < i) ⊎ ((h ≡ i) × (j < k))

-- reason n at place p is the first that is given, at one record in one turn
pub record First (bytes : List ℕ) (room n p : ℕ) : Type 0 where
  pub which : ℕ
  pub turn : ℕ
  pub given : Given bytes room which turn n p
  pub first : (i k m q : ℕ) → Sooner i k which turn → Given bytes room i k m q → ⊥

-- the numbers of n link records, one after another from a place on
unfoldable pub walked : List ℕ → ℕ → ℕ → List ℕ
walked bytes at zero = []
walked bytes at (suc n) = link_at bytes at ++ walked bytes (next_at bytes at) n

-- the closing record stands behind n link records
pub record Closes (bytes : List ℕ) (n : ℕ) : Type 0 where
  pub at : ℕ
  pub starts : Starts bytes (suc n) at
  pub closing : kind_at bytes at ≡ 3

-- What reading a file comes to, by computing: document 01's tests at each record, in its order. Assumes nothing: these are definitions.
use Rattle.std.specs.Prelude.{Bool, true, false, not, List, [], ◌∷◌, ◌++◌, ℕ, zero, suc, ◌+◌, ◌*◌, ◌-◌, eqb, ltb, length}
use Rattle.links.specs.Faults.{Fault, no_fault, fault, if_so, ◌or_else◌}
use Rattle.linkfile.specs.Numbers.{number}
use Rattle.linkfile.specs.Records.{length_of, size_at, kind_at, first, later}

-- the gauge count and the count of links, or a reason and an offset
pub data Outcome : Type 0 where
  accepted : (gauges links : ℕ) → Outcome
  refused : (reason offset : ℕ) → Outcome

infixr 15 ◌then◌
-- a fault is the outcome, or else what follows is
abbrev pub ◌then◌ : Fault → Outcome → Outcome
no_fault then o = o
fault n p then o = refused n p

-- the tests before the kind: fewer than 4 bytes left, or fewer than the length says (20); length below 2 (22)
abbrev pub frame_fault : List ℕ → ℕ → Fault
frame_fault bytes at =
    if_so (ltb (length bytes - at) 4) 20 at
    or_else if_so (ltb (length bytes - at - 4) (size_at bytes at)) 20 at
    or_else if_so (ltb (size_at bytes at) 2) 22 at

-- then: kind (21); length for its kind (22)
abbrev pub record_fault : List ℕ → (ℕ → Bool) → ℕ → Fault
record_fault bytes allowed at =
    frame_fault bytes at
    or_else if_so (not (allowed (kind_at bytes at))) 21 at
    or_else if_so (not (eqb (size_at bytes at) (length_of (kind_at bytes at)))) 22 at

-- where the record after this one starts
abbrev pub next_at : List ℕ → ℕ → ℕ
next_at bytes at = at + 4 + size_at bytes at

-- the closing record, after n links: closing count (23); bytes after it (24, placed at the first of them)
abbrev pub closing_fault : List ℕ → ℕ → ℕ → Fault
closing_fault bytes at n =
    if_so (not (eqb (number 4 bytes (at + 6)) n)) 23 at
    or_else if_so (ltb (next_at bytes at) (length bytes)) 24 (next_at bytes at)

-- the one outcome for a link record, the other for the closing record
abbrev pub by_kind : Bool → Outcome → Outcome → Outcome
by_kind true link closing = link
by_kind false link closing = closing

-- The records from a place on, with n links read and room for r more: a link record takes its room (25 where there is none) and reading goes on, the closing record
-- ends the file.
unfoldable pub read_from : List ℕ → ℕ → ℕ → ℕ → ℕ → Outcome
read_from bytes g zero at n =
    record_fault bytes later at then by_kind (eqb (kind_at bytes at) 2) (refused 25 at) (closing_fault bytes at n then accepted g n)
read_from bytes g (suc r) at n =
    record_fault bytes later at
    then by_kind (eqb (kind_at bytes at) 2) (read_from bytes g r (next_at bytes at) (n + 1)) (closing_fault bytes at n then accepted g n)

-- the file: the opening record, whose body is the gauge count, and the records after it
unfoldable pub read_of : List ℕ → ℕ → Outcome
read_of bytes room = record_fault bytes first 0 then read_from bytes (number 2 bytes 6) room (next_at bytes 0) 0

-- the four numbers of the link record at a place
abbrev pub link_at : List ℕ → ℕ → List ℕ
link_at bytes at = number 4 bytes (at + 6) ∷ number 4 bytes (at + 10) ∷ number 2 bytes (at + 14) ∷ number 2 bytes (at + 16) ∷ []

-- the numbers of the links below n: the opening record has 8 bytes, and each link record 18
unfoldable pub numbers_of : List ℕ → ℕ → List ℕ
numbers_of bytes zero = []
numbers_of bytes (suc n) = numbers_of bytes n ++ link_at bytes (8 + 18 * n)

-- The records of a link file, in the words of document 01: a 4-byte length (the bytes after it, kind included), a 2-byte kind, a body.
-- Assumes nothing: these are definitions.
use Rattle.std.specs.Prelude.{Bool, ◌||◌, List, ℕ, zero, suc, ◌+◌, eqb}
use Rattle.linkfile.specs.Numbers.{number}

-- the length that a record of each kind has: 4 for 1 opening, 14 for 2 link, 6 for 3 closing; no other kind is known
abbrev pub length_of : ℕ → ℕ
length_of zero = 0
length_of (suc zero) = 4
length_of (suc (suc zero)) = 14
length_of (suc (suc (suc zero))) = 6
length_of (suc (suc (suc (suc k)))) = 0

-- what the record at a place says of its length and of its kind
abbrev pub size_at : List ℕ → ℕ → ℕ
size_at bytes at = number 4 bytes at

abbrev pub kind_at : List ℕ → ℕ → ℕ
kind_at bytes at = number 2 bytes (at + 4)

-- which kinds are allowed: the first record has kind 1; each later one has kind 2, or kind 3
abbrev pub first : ℕ → Bool
first kind = eqb kind 1

abbrev pub later : ℕ → Bool
later kind = eqb kind 2 || eqb kind 3

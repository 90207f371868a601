-- Numbers of w bytes, lowest byte first, by division and remainder. Assumes nothing: these are definitions.
use Rattle.std.specs.Prelude.{List, [], ◌∷◌, ◌++◌, ℕ, zero, suc, ◌+◌, ◌*◌, ◌/◌, ◌%◌, ◌<◌, length, get_or, drop}

-- the number of the w bytes from a place on
unfoldable pub number : ℕ → List ℕ → ℕ → ℕ
number zero bytes at = 0
number (suc w) bytes at = get_or bytes at 0 + 256 * number w bytes (at + 1)

-- the w bytes of a number
unfoldable pub bytes_of : ℕ → ℕ → List ℕ
bytes_of zero n = []
bytes_of (suc w) n = n % 256 ∷ bytes_of w (n / 256)

-- the numbers of a list are bytes
pub record Bytes (l : List ℕ) : Type 0 where
  pub byte : (i : ℕ) → get_or l i 0 < 256

-- l with its front replaced by ns: what stands beyond stays
abbrev pub overwrite : List ℕ → List ℕ → List ℕ
overwrite ns l = ns ++ drop (length ns) l

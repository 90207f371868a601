-- The promises of the private functions, which put a line together piece by piece. Assumes nothing: these are definitions.
use Rattle.std.specs.Prelude.{Bool, true, false, List, [], ◌∷◌, ◌≡◌, ℕ, ◌+◌, ◌≤◌, ◌<◌, eqb, length}
use Rattle.gauges.specs.Sets.{set_of}
use Rattle.lines.specs.Text.{by_test, decimal}
use Rattle.lines.specs.Replies.{Placed}
use Rattle.lines.specs.declared.write.Writer.{Writer}

-- a writer puts the text at its place into the bytes that it has, and its place is then behind the text
pub record Adds (text : List ℕ) (before after : Writer) : Type 0 where
  pub placed : Placed text before.out.now before.at after.out.now
  pub upto : after.at ≡ before.at + length text
  pub kept : after.out.ghost_name ≡ before.out.ghost_name

-- r is the length of the text, which is `most` at most
pub record Counts (text : List ℕ) (most r : ℕ) : Type 0 where
  pub is : r ≡ length text
  pub few : r ≤ most

-- r says whether the text fits into so many bytes
pub record Fits (text : List ℕ) (room : ℕ) (r : Bool) : Type 0 where
  pub yes : r ≡ true → length text ≤ room
  pub no : r ≡ false → room < length text

-- what gauge k adds to the text of the gauges of m below it, if that text is n bytes long
abbrev pub more : ℕ → ℕ → ℕ → List ℕ
more m k n = by_test (set_of m k) (by_test (eqb n 0) (decimal k) (44 ∷ decimal k)) []

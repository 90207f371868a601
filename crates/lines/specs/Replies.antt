-- Text put at a place of a lent buffer, and what the functions answer of it. Assumes nothing: these are definitions.
use Rattle.std.specs.Prelude.{List, ◌≡◌, ℕ, ◌+◌, ◌≤◌, ◌<◌, length, get_or, Option, Some, None}

-- after is before with the text from place `at` on; below `at` and beyond the text nothing is changed
pub record Placed (text before : List ℕ) (at : ℕ) (after : List ℕ) : Type 0 where
  pub size : length after ≡ length before
  pub low : (k : ℕ) → k < at → get_or after k 0 ≡ get_or before k 0
  pub there : (k : ℕ) → k < length text → get_or after (at + k) 0 ≡ get_or text k 0
  pub high : (k : ℕ) → at + length text ≤ k → get_or after k 0 ≡ get_or before k 0

-- The promise of each function of this crate, for its text: where the text fits, it is placed and the answer is the place behind it;
-- where it does not, the answer is none, and nothing is changed.
pub record Puts (text before : List ℕ) (at : ℕ) (reply : Option ℕ) (after : List ℕ) : Type 0 where
  pub upto : at + length text ≤ length before → reply ≡ Some (at + length text)
  pub placed : at + length text ≤ length before → Placed text before at after
  pub short : length before < at + length text → reply ≡ None
  pub unchanged : length before < at + length text → after ≡ before

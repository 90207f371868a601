-- What the internal functions do with the array that the records' numbers are copied to. Assumes nothing: these are definitions, and no promise of a public function names them.
use Rattle.std.specs.Prelude.{◌≡◌, List, ◌∷◌, ◌++◌, ℕ, ◌+◌, ◌*◌, ◌≤◌, ◌<◌, length, take, drop, Result, Ok, Err}
use Rattle.links.specs.declared.reply.Refusal.{Refusal}
use Rattle.links.specs.declared.reply.Reason.TheVariants.{TooManyLinks}
use Rattle.records.specs.declared.Link.{Link}
use Rattle.records.specs.Flat.{flat}

-- the numbers xs, with the record l at the four places from `at` on
abbrev pub laid : List ℕ → ℕ → Link → List ℕ
laid xs at l = take at xs ++ (l.b ∷ l.e ∷ l.u ∷ l.v ∷ drop (at + 4) xs)

-- n is the number of the records ls, and of at most 2,048 their numbers go in front of the rest; of more, nothing is copied
pub record Copied (ls : List Link) (before after : List ℕ) (n : ℕ) : Type 0 where
  pub count : n ≡ length ls
  pub few : length ls ≤ 2048 → after ≡ flat ls ++ drop (4 * length ls) before
  pub many : 2048 < length ls → after ≡ before

-- the table t has n links, and, if these are at most 2,048, they stand in front of the numbers xs
pub record Stands (t xs : List ℕ) (n : ℕ) : Type 0 where
  pub size : length t ≡ 4 * n
  pub front : n ≤ 2048 → take (4 * n) xs ≡ t

-- what laying out the records ls answers. Of at most 2,048: how many numbers they have, which then stand in front, with the rest of the numbers as it was before. Of more: the refusal by reason 2, and nothing is copied
abbrev pub LaidOut : List Link → List ℕ → List ℕ → Result ℕ Refusal → Type 0
LaidOut ls before after (Ok n) = (n ≤ length after) × (take n after ≡ flat ls) × (drop n after ≡ drop n before)
LaidOut ls before after (Err why) = (2048 < length ls) × (why ≡ record { reason = TooManyLinks; place = 0 }) × (after ≡ before)

-- The text of the listing program for every input, as document 01 has it. Assumes nothing: these are definitions.
use Rattle.std.specs.Prelude.{List, ◌≡◌, ℕ, ◌≤◌, ◌<◌, length}
use Rattle.links.specs.Links.{Joined, Accepted}
use Rattle.links.specs.Faults.{fault, table_fault}
use Rattle.cliques.specs.Groups.{Row}
use Rattle.cliques.specs.Lists.{Complete}
use Rattle.cliques.specs.Buffers.{row}
use Rattle.linkfile.specs.Reading.{Outcome, accepted, refused, read_of, numbers_of}
use Rattle.lines.specs.Text.{refusal_of, lines_of}

-- The text for the table t with g gauges: the line of its fault; or, of an accepted table, the list of its groups, of which there are 2,048 at most; or 9.
pub data TableText (t : List ℕ) (g : ℕ) (text : List ℕ) : Type 0 where
  faulty : {n p : ℕ} → table_fault t g ≡ fault n p → text ≡ refusal_of n p → TableText t g text
  listed : (l : List ℕ) {k : ℕ} → Accepted t g → Complete (Joined t) g (row l) k → k ≤ 2048 → text ≡ lines_of l k → TableText t g text
  too_many : {rows : ℕ → Row} {k : ℕ} → Accepted t g → Complete (Joined t) g rows k → 2048 < k → text ≡ refusal_of 9 0 → TableText t g text

-- the text for what reading a file came to: that of the table of its links, or the line of the refusal
abbrev pub FileText : Outcome → List ℕ → List ℕ → Type 0
FileText (accepted g n) bytes text = TableText (numbers_of bytes n) g text
FileText (refused n p) bytes text = text ≡ refusal_of n p

-- The text for an input: 27 is tried before every other reason; then the input is a file, read with room for 2,048 links.
pub data ListingText (input text : List ℕ) : Type 0 where
  too_long : 40960 < length input → text ≡ refusal_of 27 0 → ListingText input text
  of_file : length input ≤ 40960 → FileText (read_of input 2048) input text → ListingText input text

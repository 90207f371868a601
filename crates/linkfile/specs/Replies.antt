-- The replies of the crate in document 01's numbers, and what the reader and the writer promise of the lent memory. Assumes nothing: these are definitions.
use Rattle.std.specs.Prelude.{◌≡◌, List, ℕ, ◌/◌, ltb, length, Result, Ok, Err}
use Rattle.links.specs.Faults.{Fault, no_fault, fault, if_so, ◌or_else◌, table_fault}
use Rattle.linkfile.specs.Numbers.{overwrite}
use Rattle.linkfile.specs.Files.{file_of}
use Rattle.linkfile.specs.Reading.{Outcome, accepted, refused, read_of, numbers_of}
use Rattle.links.specs.Reasons.{number_of}
use Rattle.links.specs.declared.reply.Refusal.{Refusal}
use Rattle.linkfile.specs.declared.reply.Counts.{Counts}

-- ---- the reader

-- the reader's reply
abbrev pub Read : Type 0
Read = Result Counts Refusal

-- the gauge count and the count of links, or the reason by its number and the offset
abbrev pub outcome_of : Read → Outcome
outcome_of (Ok c) = accepted c.gauges c.links
outcome_of (Err r) = refused (number_of r.reason) r.place

-- what the lent numbers become: four numbers a link where the file is accepted, and no change where it is refused
abbrev pub numbers_after : Outcome → List ℕ → List ℕ → List ℕ
numbers_after (accepted g n) bytes numbers = overwrite (numbers_of bytes n) numbers
numbers_after (refused m p) bytes numbers = numbers

-- The reader's promise: its reply is the outcome with room for the whole fours of the lent numbers, and so is what the numbers become.
pub record Reads (bytes numbers numbers' : List ℕ) (r : Read) : Type 0 where
  pub reply : outcome_of r ≡ read_of bytes (length numbers / 4)
  pub memory : numbers' ≡ numbers_after (read_of bytes (length numbers / 4)) bytes numbers

-- ---- the writer

-- the writer's reply
abbrev pub Written : Type 0
Written = Result ℕ Refusal

-- no fault, or the reason by its number and its place
abbrev pub fault_in : Written → Fault
fault_in (Ok n) = no_fault
fault_in (Err r) = fault (number_of r.reason) r.place

-- the length that the writer answers
abbrev pub length_in : Written → ℕ
length_in (Ok n) = n
length_in (Err r) = 0

-- what refuses the writing of a table into so many bytes: 1 to 8, then a file that is longer than the buffer (26)
abbrev pub write_fault : List ℕ → ℕ → ℕ → Fault
write_fault t g room = table_fault t g or_else if_so (ltb room (length (file_of t g))) 26 0

-- the length of the file where there is no fault
abbrev pub length_after : Fault → List ℕ → ℕ
length_after no_fault file = length file
length_after (fault n p) file = 0

-- what the lent bytes become: the file and what stood beyond it, and no change where there is a fault
abbrev pub bytes_after : Fault → List ℕ → List ℕ → List ℕ
bytes_after no_fault file bytes = overwrite file bytes
bytes_after (fault n p) file bytes = bytes

-- The writer's promise: the reply, the length of the file, and every byte that was lent.
pub record Writes (t : List ℕ) (g : ℕ) (bytes bytes' : List ℕ) (r : Written) : Type 0 where
  pub reply : fault_in r ≡ write_fault t g (length bytes)
  pub size : length_in r ≡ length_after (write_fault t g (length bytes)) (file_of t g)
  pub memory : bytes' ≡ bytes_after (write_fault t g (length bytes)) (file_of t g) bytes

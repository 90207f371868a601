-- What each entry promises: the lent memory is as the promise of the entry that it is named after has it, for one reply, and the five numbers are that reply's.
-- Assumes nothing: these are definitions.
use Rattle.std.specs.Prelude.{◌≡◌, List, ℕ, Option}
use Rattle.links.specs.Faults.{table_fault}
use Rattle.links.specs.Replies.{Check, fault_of}
use Rattle.groups.specs.Replies.{Listed, Listing}
use Rattle.question.specs.Answers.{Answer, said_of, Right}
use Rattle.linkfile.specs.Replies.{Read, Reads as Reading, Written, Writes as Writing}
use Rattle.report.specs.Replies.{Prints as Printing}
use Rattle.exports.specs.Numbers.{check_numbers, list_numbers, ask_numbers, read_numbers, write_numbers, listing_numbers}

-- the check, of the table t with g gauges
pub record Checks (t : List ℕ) (g : ℕ) (reply : List ℕ) : Type 0 where
  pub said : Check
  pub kept : fault_of said ≡ table_fault t g
  pub told : reply ≡ check_numbers said

-- the list, with the rows before and after
pub record Lists (t : List ℕ) (g : ℕ) (before after reply : List ℕ) : Type 0 where
  pub said : Listed
  pub kept : Listing t g before said after
  pub told : reply ≡ list_numbers said

-- the question, of members m over the hours x to y
pub record Asks (t : List ℕ) (g m x y : ℕ) (reply : List ℕ) : Type 0 where
  pub said : Answer
  pub kept : Right t g m x y (said_of said)
  pub told : reply ≡ ask_numbers said

-- the reader, with the lent numbers before and after
pub record Reads (bytes before after reply : List ℕ) : Type 0 where
  pub said : Read
  pub kept : Reading bytes before after said
  pub told : reply ≡ read_numbers said

-- the writer, with the lent bytes before and after
pub record Writes (t : List ℕ) (g : ℕ) (before after reply : List ℕ) : Type 0 where
  pub said : Written
  pub kept : Writing t g before after said
  pub told : reply ≡ write_numbers said

-- the listing, with the lent bytes before and after
pub record Prints (input before after reply : List ℕ) : Type 0 where
  pub said : Option ℕ
  pub kept : Printing input before said after
  pub told : reply ≡ listing_numbers said

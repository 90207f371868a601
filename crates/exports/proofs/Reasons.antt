-- A reason of 0 means that the call isn't refused, and then the other numbers are the answer: no refusal has the number 0. And an answer of 0 of the listing means
-- that its text doesn't fit: no text is empty. Assumes nothing.
use mathlib.Core.Path.{◌≡◌, sym, ap, subst, ◌∙◌}
use mathlib.Core.List.{List}
use Prim.Native.Nat.{ℕ, ◌/◌, ◌≤◌, ◌<◌}
use native.Mathlib.Omega.{arith}
use lib.ListN.{length, length-append}
use Rattle.links.proofs.Numbered.{number_some, number_least, given_number}
use Rattle.links.specs.Links.{Joined, Accepted}
use Rattle.links.specs.Faults.{Fault, no_fault, fault, table_fault}
use Rattle.links.specs.Replies.{Check, fault_of}
use Rattle.links.proofs.Reasons.{fault_first, no_fault_accepted}
use Rattle.cliques.specs.Groups.{Group}
use Rattle.cliques.specs.Buffers.{ListIn}
use Rattle.groups.specs.Replies.{Listed, Listing, refused as Not-accepted, listed, too_many as Too-many}
use Rattle.groups.proofs.OneReply.{count_of, groups≢refusal}
use Rattle.question.specs.Refusals.{question_fault}
use Rattle.question.specs.Verdicts.{FirstVerdict}
use Rattle.question.specs.Answers.{number_of, values_of, Answer, said_of, Right}
use Rattle.question.specs.declared.reply.Verdict.{Verdict}
use Rattle.question.proofs.Reasons.{refusal_first}
use Rattle.question.proofs.Reference.{question_number}
use Rattle.linkfile.specs.Reading.{Outcome, accepted, refused, read_of}
use Rattle.linkfile.specs.Files.{file_of}
use Rattle.linkfile.specs.Replies.{Read, Written, outcome_of as fileOutcome, fault_in, length_in, write_fault, length_after}
use Rattle.linkfile.proofs.Reasons.{read_number}
use Rattle.linkfile.proofs.WriteLaws.{write_number}
use Rattle.lines.specs.Text.{header_of, rows_of, lines_of, refusal_of}
use Rattle.std.specs.Prelude.{Option, Ok, Err}
use Rattle.lines.proofs.LineSizes.{header_size, refusal_size}
use Rattle.report.specs.Listings.{faulty, listed as listed_text, too_many as too-many-text, FileText, ListingText, too_long, of_file}
use Rattle.exports.specs.Numbers.{reason_in, answer_in, first_in, check_numbers, list_numbers, verdict_numbers, ask_numbers, read_numbers, write_numbers, listing_numbers}
use Rattle.exports.specs.Replies.{Checks, Lists, Asks, Reads, Writes, Prints}

-- ---- every fault of a table, of a question and of a file has a number

pub table_reason : (t : List ℕ) (g : ℕ) {n p : ℕ} → table_fault t g ≡ fault n p → 1 ≤ n
table_reason t g e = number_least (given_number (fault_first t g e).given)

pub question_reason : (t : List ℕ) (g m x y : ℕ) {n p : ℕ} → question_fault t g m x y ≡ fault n p → 1 ≤ n
question_reason t g m x y e = number_least (question_number (refusal_first t g m x y e).given)

pub read_reason : (bytes : List ℕ) (room : ℕ) {n p : ℕ} → read_of bytes room ≡ refused n p → 1 ≤ n
read_reason bytes room e = number_least (read_number bytes room e)

pub write_reason : (t : List ℕ) (g room : ℕ) {n p : ℕ} → write_fault t g room ≡ fault n p → 1 ≤ n
write_reason t g room e = number_least (write_number t g room e)

-- ---- what a reason of 0 says, entry by entry

-- the table is accepted
pub check_unrefused : {t reply : List ℕ} {g : ℕ} → Checks t g reply → reason_in reply ≡ 0 → Accepted t g
check_unrefused {t} {reply} {g} c z = each c.said c.kept (ap reason_in c.told)
  where
    each : (s : Check) → fault_of s ≡ table_fault t g → reason_in reply ≡ reason_in (check_numbers s) → Accepted t g
    each (Ok u) k e = no_fault_accepted t g (sym k)
    each (Err r) k e = absurd (omega (arith, number_some r.reason, e, z))

-- the table is accepted, and the first rows, as many as the answer says, are the list
pub list_unrefused : {t before after reply : List ℕ} {g : ℕ} → Lists t g before after reply → reason_in reply ≡ 0 → Accepted t g × ListIn (Group (Joined t) g) before after (answer_in reply)
list_unrefused {t} {before} {after} {reply} {g} c z = each c.said c.kept c.told
  where
    each : (s : Listed) → Listing t g before s after → reply ≡ list_numbers s → Accepted t g × ListIn (Group (Joined t) g) before after (answer_in reply)
    each (Err r) w e = absurd (omega (arith, number_some r.reason, ap reason_in e, z))
    each (Ok k) (Not-accepted d o s) e = absurd (groups≢refusal o)
    each (Ok k) (listed A o w) e = (A, subst (ListIn (Group (Joined t) g) before after) (sym (ap count_of o) ∙ sym (ap answer_in e)) w)
    each (Ok k) (Too-many A m o w) e = absurd (groups≢refusal o)

-- the numbers are a verdict's, and it is the first that holds
pub ask_unrefused : {t reply : List ℕ} {g m x y : ℕ} → Asks t g m x y reply → reason_in reply ≡ 0
    → (v : Verdict) × (reply ≡ verdict_numbers v) × FirstVerdict t g m x y (number_of v) (values_of v)
ask_unrefused {t} {reply} {g} {m} {x} {y} c z = each c.said c.kept c.told
  where
    each : (s : Answer) → Right t g m x y (said_of s) → reply ≡ ask_numbers s
        → (v : Verdict) × (reply ≡ verdict_numbers v) × FirstVerdict t g m x y (number_of v) (values_of v)
    each (Ok v) k e = (v, e, k.1)
    each (Err r) k e = absurd (omega (arith, number_some r.reason, ap reason_in e, z))

-- the file is read: the answer is the count of its links, and the first value the gauge count
pub read_unrefused : {bytes before after reply : List ℕ} → Reads bytes before after reply → reason_in reply ≡ 0
    → read_of bytes (length before / 4) ≡ accepted (first_in reply) (answer_in reply)
read_unrefused {bytes} {before} {after} {reply} c z = each c.said c.kept.reply c.told
  where
    each : (s : Read) → fileOutcome s ≡ read_of bytes (length before / 4) → reply ≡ read_numbers s → read_of bytes (length before / 4) ≡ accepted (first_in reply) (answer_in reply)
    each (Ok read) k e = sym k ∙ (λ i. accepted (first_in (sym e i)) (answer_in (sym e i)))
    each (Err r) k e = absurd (omega (arith, number_some r.reason, ap reason_in e, z))

-- the file is written, and the answer is its length
pub write_unrefused : {t before after reply : List ℕ} {g : ℕ} → Writes t g before after reply → reason_in reply ≡ 0
    → (write_fault t g (length before) ≡ no_fault) × (answer_in reply ≡ length (file_of t g))
write_unrefused {t} {before} {after} {reply} {g} c z = each c.said c.kept.reply c.kept.size c.told
  where
    each : (s : Written) → fault_in s ≡ write_fault t g (length before) → length_in s ≡ length_after (write_fault t g (length before)) (file_of t g) → reply ≡ write_numbers s
        → (write_fault t g (length before) ≡ no_fault) × (answer_in reply ≡ length (file_of t g))
    each (Ok n) k d e = (sym k, ap answer_in e ∙ d ∙ ap (λ (f : Fault). length_after f (file_of t g)) (sym k))
    each (Err r) k d e = absurd (omega (arith, number_some r.reason, ap reason_in e, z))

-- ---- what an answer of 0 says of the listing

refusal_some : (n p : ℕ) {text : List ℕ} → text ≡ refusal_of n p → 1 ≤ length text
refusal_some n p e = omega (arith, ap (λ (l : List ℕ). length l) e, refusal_size n p)

lines_some : (rows : List ℕ) (k : ℕ) {text : List ℕ} → text ≡ lines_of rows k → 1 ≤ length text
lines_some rows k e = omega (arith, ap (λ (l : List ℕ). length l) e, length-append (header_of k) (rows_of rows k), header_size k)

-- every text has a byte at least
text_some : {input text : List ℕ} → ListingText input text → 1 ≤ length text
text_some {input} (too_long h e) = refusal_some 27 0 e
text_some {input} {text} (of_file h f) = by_outcome (read_of input 2048) f
  where
    by_outcome : (o : Outcome) → FileText o input text → 1 ≤ length text
    by_outcome (accepted g n) (faulty {n = m} {p} d e) = refusal_some m p e
    by_outcome (accepted g n) (listed_text l {k} A C h' e) = lines_some l k e
    by_outcome (accepted g n) (too-many-text A C h' e) = refusal_some 9 0 e
    by_outcome (refused n p) e = refusal_some n p e

module _ {input before after reply : List ℕ} (c : Prints input before after reply) where
  pub listing_some : 1 ≤ length c.kept.text
  listing_some = text_some c.kept.is

  -- where the text fits, the answer is its length
  pub listing_fits : length c.kept.text ≤ length before → answer_in reply ≡ length c.kept.text
  listing_fits h = ap answer_in c.told ∙ ap (λ (s : Option ℕ). answer_in (listing_numbers s)) (c.kept.put.upto (omega arith)) ∙ omega arith

  -- where it doesn't, the answer is 0, and nothing is changed
  pub listing_short : length before < length c.kept.text → (answer_in reply ≡ 0) × (after ≡ before)
  listing_short h =
      (ap answer_in c.told ∙ ap (λ (s : Option ℕ). answer_in (listing_numbers s)) (c.kept.put.short (omega arith)), c.kept.put.unchanged (omega arith))

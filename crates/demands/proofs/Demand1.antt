-- Demand 1. Every input to every entry gets a reply: no table, question, file or text is beyond it. Each refusal carries the number of its reason and its place, and is
-- given exactly when document 01 says so. What the lent memory then holds is fixed to the number. The entries are check, list, ask, read, write and listing. For
-- each: exactly one reply, with one content of the lent memory, keeps its promise; when it refuses; and what is left in the memory. Assumes nothing.
use mathlib.Core.Logic.{◌⊎◌, inl, inr, ⊎_elim, dite, ◌↔◌}
use mathlib.Core.List.{List}
use mathlib.Core.Path.{◌≡◌, refl, sym, ap, subst, subst₂, ◌∙◌}
use Prim.Native.Nat.{ℕ, ◌/◌, ◌≤◌, ◌<◌}
use native.Mathlib.Decide.{dec_lt}
use native.Mathlib.Omega.{arith}
use lib.ListN.{length}
use Rattle.links.specs.Links.{Joined, Accepted}
use Rattle.links.specs.Faults.{Fault, no_fault, fault, First, table_fault}
use Rattle.links.specs.Replies.{Check, fault_of}
use Rattle.links.proofs.Reasons.{fault≢no_fault, given_few, fault_first, first_fault, no_fault_accepted, accepted_no_fault}
use Rattle.links.proofs.Reasons as Reasons
use Rattle.links.proofs.OneReply.{check_one}
use Rattle.cliques.specs.Groups.{Group}
use Rattle.cliques.specs.Buffers.{Cleared, ListIn}
use Rattle.cliques.proofs.Buffers.{fits_not}
use Rattle.groups.specs.Replies.{Listed, Listing, groups, refusal, outcome_of, refused, listed, too_many}
use Rattle.groups.proofs.OneReply.{reason_of, place_of, list_one, groups≢refusal, accepted_not, fault_same}
use Rattle.question.specs.Refusals.{First as FirstOfQuestion}
use Rattle.question.specs.Answers as Question
use Rattle.question.specs.Answers.{Answer, said_of, Right}
use Rattle.question.proofs.OneReply.{ask_one}
use Rattle.question.proofs.Reference.{answer_exists}
use Rattle.question.proofs.Answering.{refused_first, first_refused}
use Rattle.linkfile.specs.Numbers.{overwrite}
use Rattle.linkfile.specs.Files.{file_of}
use Rattle.linkfile.specs.Reading as Reading
use Rattle.linkfile.specs.Replies.{Read, Written, Reads, numbers_after, Writes, fault_in, write_fault, bytes_after}
use Rattle.linkfile.specs.Replies as File
use Rattle.linkfile.proofs.WriteLaws.{write_table, write_short, write_fine}
use Rattle.linkfile.proofs.RoundTrip.{file_length}
use Rattle.linkfile.proofs.OneReply.{read_one, write_one}
use Rattle.std.specs.Prelude.{Option, Some, None}
use Rattle.lines.specs.Text.{refusal_of}
use Rattle.lines.specs.Replies.{Placed}
use Rattle.report.specs.Listings.{too_long}
use Rattle.report.specs.Replies.{Prints}
use Rattle.report.proofs.Sizes.{text_most}
use Rattle.report.proofs.Whole.{short_unchanged}
use Rattle.report.proofs.OneReply.{text_exists, text_one, listing_one}
use Rattle.demands.specs.Exactly.{One, Exactly}
use Rattle.demands.specs.Room.{Full, TooLong}
use Rattle.demands.proofs.Demand2.{kept}
use Rattle.demands.proofs.Kept.{checked, listing_kept, read_kept, written_kept, puts_kept}

-- ---- check

-- every numbers and gauge count have exactly one reply
pub check_replies : (t : List ℕ) (g : ℕ) → One (λ (r : Check). fault_of r ≡ table_fault t g)
check_replies t g =
    let w = checked t g in
    record { reply = w.0; kept = w.1; only = λ r e. check_one t g r w.0 e w.1 }

module _ (t : List ℕ) (g : ℕ) (r : Check) (e : fault_of r ≡ table_fault t g) where
  -- it is refused with reason n at place p exactly if that is the first reason that document 01 gives,
  pub check_refuses : (n p : ℕ) → (fault_of r ≡ fault n p) ↔ First t g n p
  check_refuses n p = (λ s. fault_first t g (sym e ∙ s), λ F. e ∙ first_fault t g F)

  -- and accepted exactly if none of 1 to 8 holds
  pub check_accepts : (fault_of r ≡ no_fault) ↔ Accepted t g
  check_accepts = (λ s. no_fault_accepted t g (sym e ∙ s), λ A. e ∙ accepted_no_fault t g A)

-- ---- list

-- every table, gauge count and buffer have exactly one reply and one content of the buffer
pub list_replies : (t : List ℕ) (g : ℕ) (before : List ℕ) → Exactly (Listing t g before)
list_replies t g before =
    let w = listing_kept t g before (table_fault t g) refl in
    record { reply = w.0; memory = w.1; kept = w.2; only = λ r m L. list_one L w.2 }

module _ {t before after : List ℕ} {g : ℕ} {r : Listed} (L : Listing t g before r after) where
  -- it is refused with the first of 1 to 8 that is given, or, of an accepted table, with 9 exactly if there are more groups than whole rows
  pub list_refuses : (n p : ℕ) → (outcome_of r ≡ refusal n p) ↔ (First t g n p ⊎ Full t g before n p)
  list_refuses n p = (why L, ⊎_elim (of_table L) (of_room L))
    where
      why : Listing t g before r after → outcome_of r ≡ refusal n p → First t g n p ⊎ Full t g before n p
      why (refused {n = m} {p = q} d e s) o = inl (subst₂ (First t g) (ap reason_of (sym e ∙ o)) (ap place_of (sym e ∙ o)) (fault_first t g d))
      why (listed A e w) o = absurd (groups≢refusal (sym e ∙ o))
      why (too_many A m e c) o = inr (record { reason = ap reason_of (sym o ∙ e); place = ap place_of (sym o ∙ e); accepted = A; too_many = m })

      of_table : Listing t g before r after → First t g n p → outcome_of r ≡ refusal n p
      of_table (refused d e s) F = e ∙ fault_same d (first_fault t g F)
      of_table (listed A e w) F = absurd (accepted_not A (first_fault t g F))
      of_table (too_many A m e c) F = absurd (accepted_not A (first_fault t g F))

      of_room : Listing t g before r after → Full t g before n p → outcome_of r ≡ refusal n p
      of_room (refused d e s) F = absurd (accepted_not F.accepted d)
      of_room (listed A e w) F = absurd (fits_not w F.too_many)
      of_room (too_many A m e c) F = e ∙ (λ i. refusal (sym F.reason i) (sym F.place i))

  -- refused with any reason but 9, the buffer is unchanged;
  pub list_unchanged : {n p : ℕ} → outcome_of r ≡ refusal n p → (n ≡ 9 → ⊥) → after ≡ before
  list_unchanged o f = of L
    where
      of : Listing t g before r after → after ≡ before
      of (refused d e s) = s
      of (listed A e w) = absurd (groups≢refusal (sym e ∙ o))
      of (too_many A m e c) = absurd (f (ap reason_of (sym o ∙ e)))

  -- refused with 9, every number of the whole rows is 0, and the one or two left over are unchanged;
  pub list_cleared : {p : ℕ} → outcome_of r ≡ refusal 9 p → Cleared before after
  list_cleared o = of L
    where
      of : Listing t g before r after → Cleared before after
      of (refused {n = m} {p = q} d e s) = absurd (omega (arith, (given_few (fault_first t g d).given).0, ap reason_of (sym e ∙ o)))
      of (listed A e w) = absurd (groups≢refusal (sym e ∙ o))
      of (too_many A m e c) = c

  -- accepted with k groups, the first 3k numbers are the list, and the others are unchanged
  pub list_filled : {k : ℕ} → outcome_of r ≡ groups k → ListIn (Group (Joined t) g) before after k
  list_filled = kept L

-- ---- ask

-- every table, gauge count, members and span have exactly one answer
pub ask_replies : (t : List ℕ) (g m x y : ℕ) → One (λ (a : Answer). Right t g m x y (said_of a))
ask_replies t g m x y =
    let w = answer_exists t g m x y in
    record { reply = w.0; kept = w.1; only = λ a r. ask_one t g m x y a w.0 r w.1 }

-- it is a refusal exactly if one of 1 to 8, 10, 11 and 12 is given: with the first of them
pub ask_refuses : (t : List ℕ) (g m x y : ℕ) (a : Answer) → Right t g m x y (said_of a) → (n p : ℕ) → (said_of a ≡ Question.refused n p) ↔ FirstOfQuestion t g m x y n p
ask_refuses t g m x y a r n p = (λ e. refused_first t g m x y (subst (Right t g m x y) e r), λ F. first_refused t g m x y F a r)

-- ---- read

-- every bytes and lent numbers have exactly one reply and one content of the numbers. When each of 20 to 25 is given is `read_of`, which has document 01's tests in its order
pub read_replies : (bytes numbers : List ℕ) → Exactly (λ (r : Read) (after : List ℕ). Reads bytes numbers after r)
read_replies bytes numbers =
    let o = Reading.read_of bytes (length numbers / 4) in
    let w = read_kept bytes (length numbers / 4) in
    record {
      reply = w.0;
      memory = numbers_after o bytes numbers;
      kept = record { reply = w.1; memory = refl };
      only = λ r m R. read_one R (record { reply = w.1; memory = refl });
    }

module _ {bytes numbers after : List ℕ} {r : Read} (R : Reads bytes numbers after r) where
  -- a refusal leaves the lent numbers unchanged,
  pub read_unchanged : {n p : ℕ} → File.outcome_of r ≡ Reading.refused n p → after ≡ numbers
  read_unchanged e = R.memory ∙ ap (λ (o : Reading.Outcome). numbers_after o bytes numbers) (sym R.reply ∙ e)

  -- an acceptance writes four numbers a link and no more
  pub read_filled : {g n : ℕ} → File.outcome_of r ≡ Reading.accepted g n → after ≡ overwrite (Reading.numbers_of bytes n) numbers
  read_filled e = R.memory ∙ ap (λ (o : Reading.Outcome). numbers_after o bytes numbers) (sym R.reply ∙ e)

-- ---- write

-- every table, gauge count and buffer have exactly one reply and one content of the buffer
pub write_replies : (t : List ℕ) (g : ℕ) (bytes : List ℕ) → Exactly (λ (r : Written) (after : List ℕ). Writes t g bytes after r)
write_replies t g bytes =
    let f = write_fault t g (length bytes) in
    let w = written_kept t g (length bytes) in
    let k : Writes t g bytes (bytes_after f (file_of t g) bytes) w.0 = record { reply = w.1; size = w.2; memory = refl } in
    record { reply = w.0; memory = bytes_after f (file_of t g) bytes; kept = k; only = λ r m W. write_one W k }

module _ {t bytes after : List ℕ} {g : ℕ} {r : Written} (W : Writes t g bytes after r) where
  -- it is refused with the first of 1 to 8 that is given, or, of an accepted table, with 26 exactly if the file is longer than the buffer;
  pub write_refuses : (n p : ℕ) → (fault_in r ≡ fault n p) ↔ (First t g n p ⊎ TooLong t g bytes n p)
  write_refuses n p = (λ e. why (table_fault t g) refl (sym W.reply ∙ e), λ s. W.reply ∙ ⊎_elim of_table of_room s)
    where
      why : (f : Fault) → table_fault t g ≡ f → write_fault t g (length bytes) ≡ fault n p → First t g n p ⊎ TooLong t g bytes n p
      why (fault m q) d e =
          let same = sym (write_table t g (length bytes) d) ∙ e in
          inl (subst₂ (First t g) (ap Reasons.reason_of same) (ap Reasons.place_of same) (fault_first t g d))
      why no_fault d e = dite (dec_lt (length bytes) (length (file_of t g)))
          (λ l.
          let same = sym (write_short t g (length bytes) d (omega (arith, file_length t g))) ∙ e in
          inr (record { reason = sym (ap Reasons.reason_of same); place = sym (ap Reasons.place_of same); accepted = no_fault_accepted t g d; longer = l }))
          (λ l. absurd (fault≢no_fault (sym e ∙ write_fine t g (length bytes) d (omega (arith, file_length t g)))))

      of_table : First t g n p → write_fault t g (length bytes) ≡ fault n p
      of_table F = write_table t g (length bytes) (first_fault t g F)

      of_room : TooLong t g bytes n p → write_fault t g (length bytes) ≡ fault n p
      of_room F =
          write_short t g (length bytes) (accepted_no_fault t g F.accepted) (omega (arith, F.longer, file_length t g))
          ∙ (λ i. fault (sym F.reason i) (sym F.place i))

  -- refused, the buffer is unchanged;
  pub write_unchanged : {n p : ℕ} → fault_in r ≡ fault n p → after ≡ bytes
  write_unchanged e = W.memory ∙ ap (λ (f : Fault). bytes_after f (file_of t g) bytes) (sym W.reply ∙ e)

  -- accepted, it begins with the one file of the table, and what stood beyond is unchanged
  pub write_filled : fault_in r ≡ no_fault → after ≡ overwrite (file_of t g) bytes
  write_filled e = W.memory ∙ ap (λ (f : Fault). bytes_after f (file_of t g) bytes) (sym W.reply ∙ e)

-- ---- listing

-- every input and buffer have exactly one reply and one content of the buffer
pub listing_replies : (input before : List ℕ) → Exactly (Prints input before)
listing_replies input before =
    let text = text_exists input in
    let w = puts_kept text.0 before 0 in
    let k : Prints input before w.0 w.1 = record { text = text.0; is = text.1; put = w.2 } in
    record { reply = w.0; memory = w.1; kept = k; only = λ r m P. listing_one P k }

module _ {input before after : List ℕ} {r : Option ℕ} (P : Prints input before r after) where
  -- 27 is tried before every other reason;
  pub listing_too_long : 40960 < length input → P.text ≡ refusal_of 27 0
  listing_too_long h = text_one P.is (too_long h refl)

  -- a text that does not fit leaves the buffer unchanged;
  pub listing_unchanged : r ≡ None → after ≡ before
  listing_unchanged = short_unchanged P

  -- one that fits stands at its start, and the reply is its length, which is 440,332 at most
  pub listing_filled : length P.text ≤ length before → (r ≡ Some (length P.text)) × Placed P.text before 0 after
  listing_filled h = (P.put.upto (omega arith) ∙ ap Some (omega arith), P.put.placed (omega arith))

  pub listing_most : length P.text ≤ 440332
  listing_most = text_most P.is

-- Every input has one text, and no second reply and no second buffer fit the promise of the listing. Assumes nothing.
use mathlib.Core.Logic.{dite}
use mathlib.Core.List.{List, [], ◌++◌}
use mathlib.Core.Path.{◌≡◌, refl, sym, ap, subst, ◌∙◌}
use Prim.Native.Nat.{ℕ}
use native.Mathlib.Decide.{dec_le}
use native.Mathlib.Omega.{arith}
use lib.ListN.{length}
use Rattle.links.specs.Links.{Joined}
use Rattle.links.specs.Faults.{Fault, no_fault, fault, table_fault}
use Rattle.links.proofs.Reasons.{no_fault_accepted}
use Rattle.cliques.specs.Lists.{Complete}
use Rattle.cliques.specs.Buffers.{row}
use Rattle.cliques.proofs.OneList.{one_length}
use Rattle.cliques.proofs.Buffers.{one_numbers}
use Rattle.cliques.proofs.Flat.{flat, flat_listed}
use Rattle.cliques.proofs.Tables.{table_rows, table_complete}
use Rattle.groups.proofs.OneReply.{accepted_not}
use Rattle.linkfile.specs.Reading.{Outcome, accepted, refused, read_of, numbers_of}
use Rattle.lines.specs.Text.{header_of, refusal_of, lines_of}
use Rattle.std.specs.Prelude.{Option}
use Rattle.lines.specs.Replies.{Puts}
use Rattle.lines.proofs.OneReply.{puts_one}
use Rattle.lines.proofs.RowTexts.{rows_same}
use Rattle.report.specs.Listings.{TableText, faulty, listed, too_many, FileText, ListingText, too_long, of_file}
use Rattle.report.specs.Replies.{Prints}

-- the line of a fault
abbrev line_of : Fault → List ℕ
line_of no_fault = []
line_of (fault n p) = refusal_of n p

-- two complete lists of one table have the same lines
lines_one : {t : List ℕ} {g k k' : ℕ} (l l' : List ℕ) → Complete (Joined t) g (row l) k → Complete (Joined t) g (row l') k' → lines_of l k ≡ lines_of l' k'
lines_one {k = k} l l' C D =
    ap (λ (r : List ℕ). header_of k ++ r) (rows_same l l' k (λ j h. one_numbers l l' C D j h)) ∙ ap (lines_of l') (one_length C D)

-- a table has one text
pub table_text_one : {t a b : List ℕ} {g : ℕ} → TableText t g a → TableText t g b → a ≡ b
table_text_one (faulty d e) (faulty d' e') = e ∙ ap line_of (sym d ∙ d') ∙ sym e'
table_text_one (faulty d e) (listed l' A C h e') = absurd (accepted_not A d)
table_text_one (faulty d e) (too_many A C h e') = absurd (accepted_not A d)
table_text_one (listed l A C h e) (faulty d e') = absurd (accepted_not A d)
table_text_one (listed l A C h e) (listed l' A' C' h' e') = e ∙ lines_one l l' C C' ∙ sym e'
table_text_one (listed l A C h e) (too_many A' C' h' e') = absurd (omega (arith, one_length C C'))
table_text_one (too_many A C h e) (faulty d e') = absurd (accepted_not A d)
table_text_one (too_many A C h e) (listed l' A' C' h' e') = absurd (omega (arith, one_length C C'))
table_text_one (too_many A C h e) (too_many A' C' h' e') = e ∙ sym e'

-- so has what reading came to
file_text_one : (o : Outcome) (bytes : List ℕ) {a b : List ℕ} → FileText o bytes a → FileText o bytes b → a ≡ b
file_text_one (accepted g n) bytes p q = table_text_one p q
file_text_one (refused n r) bytes p q = p ∙ sym q

-- every input has a text, and no second one
table_text : (t : List ℕ) (g : ℕ) (f : Fault) → table_fault t g ≡ f → (text : List ℕ) × TableText t g text
table_text t g (fault n p) e = (refusal_of n p, faulty e refl)
table_text t g no_fault e =
    let l = flat (table_rows t g) in
    let k = length (table_rows t g) in
    let A = no_fault_accepted t g e in
    dite (dec_le k 2048)
    (λ h. (lines_of l k, listed l A (flat_listed (table_rows t g) (table_complete t g)) h refl))
    (λ h. (refusal_of 9 0, too_many A (table_complete t g) (omega arith) refl))

file_text : (o : Outcome) (bytes : List ℕ) → (text : List ℕ) × FileText o bytes text
file_text (accepted g n) bytes = table_text (numbers_of bytes n) g (table_fault (numbers_of bytes n) g) refl
file_text (refused n p) bytes = (refusal_of n p, refl)

pub text_exists : (input : List ℕ) → (text : List ℕ) × ListingText input text
text_exists input =
    let w = file_text (read_of input 2048) input in
    dite (dec_le (length input) 40960)
    (λ h. (w.0, of_file h w.1))
    (λ h. (refusal_of 27 0, too_long (omega arith) refl))

pub text_one : {input a b : List ℕ} → ListingText input a → ListingText input b → a ≡ b
text_one (too_long h e) (too_long h' e') = e ∙ sym e'
text_one (too_long h e) (of_file h' f) = absurd (omega arith)
text_one (of_file h f) (too_long h' e') = absurd (omega arith)
text_one {input} (of_file h f) (of_file h' f') = file_text_one (read_of input 2048) input f f'

-- no second reply fits `listing`, and no other bytes
pub listing_one : {input before a b : List ℕ} {r s : Option ℕ} → Prints input before r a → Prints input before s b → (r ≡ s) × (a ≡ b)
listing_one {before = before} {b = b} {s = s} p q =
    puts_one p.put (subst (λ (t : List ℕ). Puts t before 0 s b) (sym (text_one p.is q.is)) q.put)

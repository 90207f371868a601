-- Every promise can be kept: for each entry and every input there is a reply, and a content of the lent memory, that keeps it. Assumes nothing.
use mathlib.Core.Logic.{dite}
use mathlib.Core.List.{List, [], ◌∷◌, ◌++◌}
use mathlib.Core.Path.{◌≡◌, refl, sym, ap, ◌∙◌}
use Prim.Native.Nat.{ℕ, zero, suc, ◌+◌, ◌*◌, ◌-◌, ◌≤◌, ◌<◌}
use native.Mathlib.Decide.{dec_le}
use native.Mathlib.Omega.{arith}
use lib.ListN.{length, get_or, drop, set, length-append, length-drop, get_or-append}
use lib.Seq.{get_or-drop, get_or-append-add}
use Rattle.links.specs.Faults.{Fault, no_fault, fault, table_fault}
use Rattle.links.specs.Replies.{Check, fault_of}
use Rattle.links.specs.declared.reply.Reason.TheVariants.{TooFewRows}
use Rattle.links.proofs.Numbered.{numbered, IsNumber, given_number}
use Rattle.links.proofs.Reasons.{fault_first, no_fault_accepted}
use Rattle.cliques.specs.Buffers.{whole_rows}
use Rattle.groups.specs.Replies.{Listed, Listing, refusal, refused, listed, too_many}
use Rattle.cliques.proofs.OneList.{listed_at}
use Rattle.cliques.proofs.Buffers.{same_rows}
use Rattle.cliques.proofs.RowLists.{row_at}
use Rattle.cliques.proofs.Flat.{flat, length_flat, flat_listed}
use Rattle.cliques.proofs.Tables.{table_rows, table_complete}
use Rattle.linkfile.specs.Files.{file_of}
use Rattle.linkfile.proofs.Reasons.{read_number}
use Rattle.linkfile.proofs.WriteLaws.{write_number}
use Rattle.linkfile.specs.Reading as Reading
use Rattle.linkfile.specs.Replies as File
use Rattle.std.specs.Prelude.{Option, Some, None, Ok, Err}
use Rattle.lines.specs.Replies.{Placed, Puts}
use Rattle.lines.proofs.Placing.{placed_none, placed_byte, placed_then, puts_placed, puts_short}

-- ---- check

checked_as : (f : Fault) → ((n p : ℕ) → f ≡ fault n p → IsNumber n) → (r : Check) × (fault_of r ≡ f)
checked_as no_fault k = (Ok (tt {0}), refl)
checked_as (fault n p) k = (Err (record { reason = numbered n; place = p }), ap (λ (m : ℕ). fault m p) (k n p refl))

table_number : (t : List ℕ) (g : ℕ) {n p : ℕ} → table_fault t g ≡ fault n p → IsNumber n
table_number t g e = given_number (fault_first t g e).given

pub checked : (t : List ℕ) (g : ℕ) → (r : Check) × (fault_of r ≡ table_fault t g)
checked t g = checked_as (table_fault t g) (λ n p. table_number t g)

-- ---- list

-- the first n numbers of a buffer set to 0
unfoldable zeroed : ℕ → List ℕ → List ℕ
zeroed zero l = l
zeroed (suc n) [] = []
zeroed (suc n) (a ∷ l) = 0 ∷ zeroed n l

length_zeroed : (n : ℕ) (l : List ℕ) → length (zeroed n l) ≡ length l
unfolding zeroed
length_zeroed zero l = refl
length_zeroed (suc n) [] = refl
length_zeroed (suc n) (a ∷ l) = ap suc (length_zeroed n l)

zeroed_low : (n : ℕ) (l : List ℕ) (i : ℕ) → i < n → get_or (zeroed n l) i 0 ≡ 0
unfolding zeroed
zeroed_low zero l i h = absurd (omega arith)
zeroed_low (suc n) [] i h = refl
zeroed_low (suc n) (a ∷ l) zero h = refl
zeroed_low (suc n) (a ∷ l) (suc i) h = zeroed_low n l i (omega arith)

zeroed_high : (n : ℕ) (l : List ℕ) (i : ℕ) → n ≤ i → get_or (zeroed n l) i 0 ≡ get_or l i 0
unfolding zeroed
zeroed_high zero l i h = refl
zeroed_high (suc n) [] i h = refl
zeroed_high (suc n) (a ∷ l) zero h = absurd (omega arith)
zeroed_high (suc n) (a ∷ l) (suc i) h = zeroed_high n l i (omega arith)

-- behind a list that replaces the front of a buffer, the buffer is as it was
beyond : (l before : List ℕ) (n : ℕ) → length l ≡ n → (i : ℕ) → n ≤ i → get_or (l ++ drop n before) i 0 ≡ get_or before i 0
beyond l before n e i h =
    let at : i ≡ length l + (i - n) = omega arith in
    let back : n + (i - n) ≡ i = omega arith in
    ap (λ (k : ℕ). get_or (l ++ drop n before) k 0) at ∙ get_or-append-add l (drop n before) (i - n) 0 ∙ get_or-drop n before (i - n) 0
    ∙ ap (λ (k : ℕ). get_or before k 0) back

pub listing_kept : (t : List ℕ) (g : ℕ) (before : List ℕ) (f : Fault) → table_fault t g ≡ f → (r : Listed) × (after : List ℕ) × Listing t g before r after
listing_kept t g before (fault n p) e =
    (Err (record { reason = numbered n; place = p }), before, refused e (ap (λ (m : ℕ). refusal m p) (table_number t g e)) refl)
listing_kept t g before no_fault e =
    let l = flat (table_rows t g) in
    let k = length (table_rows t g) in
    let A = no_fault_accepted t g e in
    let C = table_complete t g in
    let size = length_flat (table_rows t g) in
    dite (dec_le k (whole_rows before))
    (λ h.
    let after = l ++ drop (3 * k) before in
    let long : length after ≡ length before = omega (arith, size, length-append l (drop (3 * k) before), length-drop (3 * k) before) in (
      Ok k,
      after,
      listed A refl (record {
        list = listed_at (same_rows l after (λ j i. sym (get_or-append l (drop (3 * k) before) 0 j (omega arith)))) (flat_listed (table_rows t g) C);
        fits = h;
        size = long;
        rest = λ i m. beyond l before (3 * k) size i m;
      }),
    ))
    (λ h. (
      Err (record { reason = TooFewRows; place = 0 }),
      zeroed (3 * whole_rows before) before,
      too_many A (record { rows = row_at (table_rows t g); count = k; list = C; more = omega arith }) refl (record {
        size = length_zeroed (3 * whole_rows before) before;
        zero = zeroed_low (3 * whole_rows before) before;
        rest = zeroed_high (3 * whole_rows before) before;
      }),
    ))

-- ---- read and write

read_as : (o : Reading.Outcome) → ((n p : ℕ) → o ≡ Reading.refused n p → IsNumber n) → (r : File.Read) × (File.outcome_of r ≡ o)
read_as (Reading.accepted g n) k = (Ok (record { gauges = g; links = n }), refl)
read_as (Reading.refused n p) k = (Err (record { reason = numbered n; place = p }), ap (λ (m : ℕ). Reading.refused m p) (k n p refl))

pub read_kept : (bytes : List ℕ) (room : ℕ) → (r : File.Read) × (File.outcome_of r ≡ Reading.read_of bytes room)
read_kept bytes room = read_as (Reading.read_of bytes room) (λ n p. read_number bytes room)

written_as : (f : Fault) (file : List ℕ) → ((n p : ℕ) → f ≡ fault n p → IsNumber n) → (r : File.Written) × (File.fault_in r ≡ f) × (File.length_in r ≡ File.length_after f file)
written_as no_fault file k = (Ok (length file), refl, refl)
written_as (fault n p) file k = (Err (record { reason = numbered n; place = p }), ap (λ (m : ℕ). fault m p) (k n p refl), refl)

pub written_kept : (t : List ℕ) (g room : ℕ)
    → (r : File.Written) × (File.fault_in r ≡ File.write_fault t g room) × (File.length_in r ≡ File.length_after (File.write_fault t g room) (file_of t g))
written_kept t g room = written_as (File.write_fault t g room) (file_of t g) (λ n p. write_number t g room)

-- ---- text

placed_kept : (text l : List ℕ) (at : ℕ) → at + length text ≤ length l → (l' : List ℕ) × Placed text l at l'
placed_kept [] l at h = (l, placed_none l at)
placed_kept (b ∷ text) l at h =
    let first = placed_byte l at b (omega arith) in
    let rest = placed_kept text (set l at b) (at + 1) (omega (arith, first.size)) in
    (rest.0, placed_then first refl rest.1)

pub puts_kept : (text l : List ℕ) (at : ℕ) → (r : Option ℕ) × (l' : List ℕ) × Puts text l at r l'
puts_kept text l at =
    dite (dec_le (at + length text) (length l))
    (λ h. let w = placed_kept text l at h in (Some (at + length text), w.0, puts_placed h w.1))
    (λ h. (None, l, puts_short text l at (omega arith)))

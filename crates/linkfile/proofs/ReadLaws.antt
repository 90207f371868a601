-- The tests of a record, on each way out of them and back; the outcome of reading at a record of each kind. Assumes nothing.
use mathlib.Core.Bool.{Bool, true, false, not}
use mathlib.Core.Path.{◌≡◌, refl, sym, ap, ◌∙◌}
use mathlib.Core.List.{List}
use Prim.Native.Nat.{ℕ, zero, suc, ◌+◌, ◌-◌, ◌≤◌}
use native.Mathlib.Omega.{arith}
use borrow.Author.Tests.{le-ltb, eq-eqb, ne_eqb, eqb-true, ltb-false, not-false}
use lib.Dec.{eqb, ltb}
use lib.ListN.{length}
use Rattle.links.specs.Faults.{Fault, no_fault, fault, if_so, ◌or_else◌}
use Rattle.links.proofs.Reasons.{fault≢no_fault}
use Rattle.linkfile.specs.Numbers.{number}
use Rattle.linkfile.specs.Records.{length_of, size_at, kind_at, first, later}
use Rattle.linkfile.specs.Steps.{RecordAt}
use Rattle.linkfile.specs.Reading.{Outcome, accepted, refused, ◌then◌, frame_fault, record_fault, next_at, closing_fault, read_from, read_of}

-- ---- where nothing was found, no test said so

pub or_none : (f g : Fault) → (f or_else g) ≡ no_fault → (f ≡ no_fault) × (g ≡ no_fault)
or_none no_fault g e = (refl, e)
or_none (fault n p) g e = absurd (fault≢no_fault e)

pub if_none : (b : Bool) (n p : ℕ) → if_so b n p ≡ no_fault → b ≡ false
if_none true n p e = absurd (fault≢no_fault e)
if_none false n p e = refl

-- ---- the tests before the kind

-- a whole record with room for its kind stands at a place
pub record Framed (bytes : List ℕ) (at : ℕ) : Type 0 where
  pub whole : at + 4 + size_at bytes at ≤ length bytes
  pub kinded : 2 ≤ size_at bytes at

module _ (bytes : List ℕ) (at : ℕ) where
  pub framed_fine : Framed bytes at → frame_fault bytes at ≡ no_fault
  framed_fine f = rw (
    le-ltb (length bytes - at) 4 (omega (arith, f.whole)),
    le-ltb (length bytes - at - 4) (size_at bytes at) (omega (arith, f.whole)),
    le-ltb (size_at bytes at) 2 f.kinded,
  )

  pub frame_told : frame_fault bytes at ≡ no_fault → Framed bytes at
  frame_told e =
      let s = if_so (ltb (length bytes - at) 4) 20 at in
      let w = if_so (ltb (length bytes - at - 4) (size_at bytes at)) 20 at in
      let k = if_so (ltb (size_at bytes at) 2) 22 at in
      let a = or_none (s or_else w) k e in
      let b = or_none s w a.0 in
      let four : 4 ≤ length bytes - at = ltb-false _ _ (if_none _ 20 at b.0) in
      let all : size_at bytes at ≤ length bytes - at - 4 = ltb-false _ _ (if_none _ 20 at b.1) in
      record { whole = omega arith; kinded = ltb-false _ _ (if_none _ 22 at a.1) }

  -- ---- kind, and length for its kind

  module _ (allowed : ℕ → Bool) where
    module _ (framed : Framed bytes at) where
      pub record_kind : allowed (kind_at bytes at) ≡ false → record_fault bytes allowed at ≡ fault 21 at
      record_kind e = rw (framed_fine framed, e)

      module _ (allows : allowed (kind_at bytes at) ≡ true) where
        pub record_size : (size_at bytes at ≡ length_of (kind_at bytes at) → ⊥) → record_fault bytes allowed at ≡ fault 22 at
        record_size d = rw (framed_fine framed, allows, ne_eqb (size_at bytes at) (length_of (kind_at bytes at)) d)

        pub record_fine : size_at bytes at ≡ length_of (kind_at bytes at) → record_fault bytes allowed at ≡ no_fault
        record_fine e = rw (framed_fine framed, allows, eq-eqb (size_at bytes at) (length_of (kind_at bytes at)) e)

    -- a record without a fault
    pub record Fine : Type 0 where
      pub framed : Framed bytes at
      pub allows : allowed (kind_at bytes at) ≡ true
      pub size : size_at bytes at ≡ length_of (kind_at bytes at)

    pub record_told : record_fault bytes allowed at ≡ no_fault → Fine
    record_told e =
        let k = if_so (not (allowed (kind_at bytes at))) 21 at in
        let s = if_so (not (eqb (size_at bytes at) (length_of (kind_at bytes at)))) 22 at in
        let a = or_none (frame_fault bytes at or_else k) s e in
        let b = or_none (frame_fault bytes at) k a.0 in
        record {
          framed = frame_told b.0;
          allows = not-false _ (if_none _ 21 at b.1);
          size = eqb-true _ _ (not-false _ (if_none _ 22 at a.1));
        }

    -- a whole record of an allowed kind has no fault
    pub record_at : {kind next : ℕ} → RecordAt bytes kind at next → 2 ≤ length_of kind → allowed kind ≡ true → record_fault bytes allowed at ≡ no_fault
    record_at {kind} {next} R two e =
        record_fine (record { whole = omega (arith, R.size, R.next_is, R.whole); kinded = omega (arith, R.size) })
        (ap allowed R.kind_is ∙ e) (R.size ∙ ap length_of (sym R.kind_is))

-- ---- reading on

module _ (bytes : List ℕ) (g : ℕ) where
  -- a record that is refused ends the reading
  pub from_refused : (r at n : ℕ) {m p : ℕ} → record_fault bytes later at ≡ fault m p → read_from bytes g r at n ≡ refused m p
  unfolding read_from
  from_refused zero at n e = rw e
  from_refused (suc r) at n e = rw e

  -- a link without room is refused
  pub from_full : (n : ℕ) {at next : ℕ} → RecordAt bytes 2 at next → read_from bytes g 0 at n ≡ refused 25 at
  unfolding read_from
  from_full n {at} R = rw (record_at bytes at later R (omega arith) refl, R.kind_is)

  -- a link with room is read
  pub from_link : (r n : ℕ) {at next : ℕ} → RecordAt bytes 2 at next → read_from bytes g (suc r) at n ≡ read_from bytes g r next (n + 1)
  unfolding read_from
  from_link r n {at} {next} R =
      let e : at + 4 + size_at bytes at ≡ next = omega (arith, R.size, R.next_is) in
      rw (record_at bytes at later R (omega arith) refl, R.kind_is, e)

  -- the closing record ends the file
  pub from_closing : (r n : ℕ) {at next : ℕ} → RecordAt bytes 3 at next → read_from bytes g r at n ≡ (closing_fault bytes at n then accepted g n)
  unfolding read_from
  from_closing zero n {at} R = rw (record_at bytes at later R (omega arith) refl, R.kind_is)
  from_closing (suc r) n {at} R = rw (record_at bytes at later R (omega arith) refl, R.kind_is)

-- the closing record after n links, in a file of g gauges, at the very end
pub closing_fine : {bytes : List ℕ} {at next : ℕ} → RecordAt bytes 3 at next → (g n : ℕ) → number 4 bytes (at + 6) ≡ n → length bytes ≤ next
    → (closing_fault bytes at n then accepted g n) ≡ accepted g n
closing_fine {bytes} {at} {next} R g n counted h =
    let ends : next_at bytes at ≡ next = omega (arith, R.size, R.next_is) in
    rw (eq-eqb (number 4 bytes (at + 6)) n counted, ends, le-ltb next (length bytes) h)

module _ (bytes : List ℕ) (room : ℕ) where
  pub opening_refused : {m p : ℕ} → record_fault bytes first 0 ≡ fault m p → read_of bytes room ≡ refused m p
  unfolding read_of
  opening_refused e = rw e

  -- an opening record without a fault is a whole one
  pub opening_record : record_fault bytes first 0 ≡ no_fault → RecordAt bytes 1 0 8
  opening_record e =
      let f = record_told bytes 0 first e in
      let one : kind_at bytes 0 ≡ 1 = eqb-true _ _ f.allows in
      let size : size_at bytes 0 ≡ 4 = f.size ∙ ap length_of one in
      record { size = size; kind_is = one; next_is = refl; whole = omega (arith, f.framed.whole) }

  pub opening_read : RecordAt bytes 1 0 8 → read_of bytes room ≡ read_from bytes (number 2 bytes 6) room 8 0
  unfolding read_of
  opening_read R =
      let e : 0 + 4 + size_at bytes 0 ≡ 8 = omega (arith, R.size) in
      rw (record_at bytes 0 first R (omega arith) refl, e)

-- ---- the reader on its way

-- The records before a place are an opening record and n links, and what is left to read from there decides.
pub record Surveyed (bytes : List ℕ) (room g at n : ℕ) : Type 0 where
  pub inside : at ≤ length bytes
  pub fits : n ≤ room
  pub rest : read_of bytes room ≡ read_from bytes g (room - n) at n

pub survey_start : (bytes : List ℕ) (room : ℕ) {g next : ℕ} → RecordAt bytes 1 0 next → g ≡ number 2 bytes 6 → Surveyed bytes room g 8 0
survey_start bytes room {g} R is =
    let first : RecordAt bytes 1 0 8 = record { size = R.size; kind_is = R.kind_is; next_is = refl; whole = omega (arith, R.next_is, R.whole) } in
    let z : room ≡ room - 0 = omega arith in
    record { inside = first.whole; fits = omega arith; rest = opening_read bytes room first ∙ (λ p. read_from bytes (sym is p) (z p) 8 0) }

module _ {bytes : List ℕ} {room g at n : ℕ} (S : Surveyed bytes room g at n) where
  pub survey_refused : {m p : ℕ} → record_fault bytes later at ≡ fault m p → read_of bytes room ≡ refused m p
  survey_refused e = S.rest ∙ from_refused bytes g (room - n) at n e

  pub survey_full : {next : ℕ} → RecordAt bytes 2 at next → n ≡ room → read_of bytes room ≡ refused 25 at
  survey_full R e =
      let none : room - n ≡ 0 = omega arith in
      S.rest ∙ ap (λ (r : ℕ). read_from bytes g r at n) none ∙ from_full bytes g n R

  pub survey_link : {next : ℕ} → RecordAt bytes 2 at next → (n ≡ room → ⊥) → Surveyed bytes room g next (n + 1)
  survey_link R d =
      let more : room - n ≡ suc (room - (n + 1)) = omega (arith, S.fits) in
      record {
        inside = R.whole;
        fits = omega (arith, S.fits);
        rest = S.rest ∙ ap (λ (r : ℕ). read_from bytes g r at n) more ∙ from_link bytes g (room - (n + 1)) n R;
      }

  pub survey_closing : {next : ℕ} {o : Outcome} → RecordAt bytes 3 at next → o ≡ (closing_fault bytes at n then accepted g n) → o ≡ read_of bytes room
  survey_closing R e = e ∙ sym (S.rest ∙ from_closing bytes g (room - n) n R)

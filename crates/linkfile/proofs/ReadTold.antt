-- What reading says of a file that it accepts: where its records stand, and that it ends behind them. Assumes nothing.
use mathlib.Core.Bool.{false, not, true≢false}
use mathlib.Core.Logic.{◌⊎◌, inl, inr, ⊎_elim, dite}
use mathlib.Core.Path.{◌≡◌, refl, sym, ap, subst, ◌∙◌}
use mathlib.Core.List.{List, ◌++◌}
use Prim.Native.Nat.{ℕ, zero, suc, ◌+◌, ◌*◌, ◌/◌, ◌≤◌, ◌<◌}
use native.Mathlib.Decide.{ℕ_discrete}
use native.Mathlib.Nat.{not-suc-le-zero}
use native.Mathlib.Omega.{arith}
use borrow.Author.Tests.{ne_eqb, eqb-true, ltb-false, not-false}
use lib.Dec.{eqb, ltb}
use lib.ListN.{length, take, drop}
use lib.Seq.{length-take-le}
use Rattle.links.specs.Links.{count}
use Rattle.links.specs.Faults.{Fault, no_fault, fault, if_so}
use Rattle.linkfile.specs.Numbers.{number}
use Rattle.linkfile.specs.Records.{length_of, size_at, kind_at, first, later}
use Rattle.linkfile.specs.Steps.{Put, RecordAt}
use Rattle.linkfile.specs.Reading.{Outcome, accepted, refused, ◌then◌, record_fault, next_at, closing_fault, read_from, read_of, numbers_of}
use Rattle.linkfile.specs.Replies.{numbers_after}
use Rattle.linkfile.proofs.NumberLaws.{put_all}
use Rattle.linkfile.proofs.FileLaws.{length_numbers}
use Rattle.linkfile.proofs.ReadLaws.{or_none, if_none, Fine, record_told, from_refused, from_full, from_link, from_closing, opening_refused, opening_record, opening_read}

pub refused≢accepted : {m p g n : ℕ} → refused m p ≡ accepted g n → ⊥
refused≢accepted e = let z : ◌≡◌ {A = ℕ} 0 1 = cc in omega arith

-- ---- the record at a place

-- a record after the first that has no fault is a link or the closing record
pub fine_later : (bytes : List ℕ) (at : ℕ) → record_fault bytes later at ≡ no_fault → RecordAt bytes 2 at (at + 18) ⊎ RecordAt bytes 3 at (at + 10)
fine_later bytes at e = dite (ℕ_discrete (kind_at bytes at) 2) (λ d. inl (of_kind 2 d (omega arith))) (λ d.
    dite (ℕ_discrete (kind_at bytes at) 3) (λ f. inr (of_kind 3 f (omega arith))) (λ f. absurd (true≢false (sym F.allows ∙ none d f))))
  where
    F : Fine bytes at later
    F = record_told bytes at later e

    of_kind : (k : ℕ) {n : ℕ} → kind_at bytes at ≡ k → n ≡ at + 4 + length_of k → RecordAt bytes k at n
    of_kind k {n} d is =
        let size : size_at bytes at ≡ length_of k = F.size ∙ ap length_of d in
        record { size = size; kind_is = d; next_is = is; whole = omega (arith, F.framed.whole) }

    none : (kind_at bytes at ≡ 2 → ⊥) → (kind_at bytes at ≡ 3 → ⊥) → later (kind_at bytes at) ≡ false
    none d f = rw (ne_eqb (kind_at bytes at) 2 d, ne_eqb (kind_at bytes at) 3 f)

-- a fault, and what it is
pub record Found (f : Fault) : Type 0 where
  pub reason : ℕ
  pub place : ℕ
  pub is : f ≡ fault reason place

pub found_or_none : (f : Fault) → Found f ⊎ (f ≡ no_fault)
found_or_none no_fault = inr refl
found_or_none (fault n p) = inl (record { reason = n; place = p; is = refl })

-- ---- the whole file

-- What an accepted file with n links is: an opening record, the links, and a closing record with their count at the very end.
pub record Whole (bytes : List ℕ) (g n : ℕ) : Type 0 where
  pub opening : RecordAt bytes 1 0 8
  pub gauges : number 2 bytes 6 ≡ g
  pub links : (k : ℕ) → k < n → RecordAt bytes 2 (8 + 18 * k) (8 + 18 * k + 18)
  pub closing : RecordAt bytes 3 (8 + 18 * n) (8 + 18 * n + 10)
  pub counted : number 4 bytes (8 + 18 * n + 6) ≡ n
  pub ended : length bytes ≡ 18 * n + 18

module _ (bytes : List ℕ) (g : ℕ) where
  -- what reading on from the record behind n links says
  pub record Ends (room g' n : ℕ) : Type 0 where
    pub gauges : g ≡ g'
    pub fits : n ≤ room
    pub links : (k : ℕ) → k < n → RecordAt bytes 2 (8 + 18 * k) (8 + 18 * k + 18)
    pub closing : RecordAt bytes 3 (8 + 18 * n) (8 + 18 * n + 10)
    pub counted : number 4 bytes (8 + 18 * n + 6) ≡ n
    pub ended : length bytes ≡ 18 * n + 18

  module _ {g' n' : ℕ} where
    ends_here : (r n : ℕ) → ((k : ℕ) → k < n → RecordAt bytes 2 (8 + 18 * k) (8 + 18 * k + 18)) → RecordAt bytes 3 (8 + 18 * n) (8 + 18 * n + 10)
        → (closing_fault bytes (8 + 18 * n) n then accepted g n) ≡ accepted g' n' → Ends (n + r) g' n'
    ends_here r n below R e = ⊎_elim
        (λ f. absurd (refused≢accepted (ap (λ (x : Fault). x then accepted g n) (sym f.is) ∙ e)))
        (λ f.
        let at = 8 + 18 * n in
        let same : accepted g n ≡ accepted g' n' = ap (λ (x : Fault). x then accepted g n) (sym f) ∙ e in
        let count = if_so (not (eqb (number 4 bytes (at + 6)) n)) 23 at in
        let rest = if_so (ltb (next_at bytes at) (length bytes)) 24 (next_at bytes at) in
        let b = or_none count rest f in
        let last : length bytes ≤ next_at bytes at = ltb-false _ _ (if_none _ 24 (next_at bytes at) b.1) in
        let g-same : g ≡ g' = cc in
        let n-same : n ≡ n' = cc in
        subst (Ends (n + r) g') n-same (record {
          gauges = g-same;
          fits = omega arith;
          links = below;
          closing = R;
          counted = eqb-true _ _ (not-false _ (if_none _ 23 at b.0));
          ended = omega (arith, R.size, R.whole);
        }))
        (found_or_none (closing_fault bytes (8 + 18 * n) n))

    from_told : (r n : ℕ) → ((k : ℕ) → k < n → RecordAt bytes 2 (8 + 18 * k) (8 + 18 * k + 18)) → read_from bytes g r (8 + 18 * n) n ≡ accepted g' n' → Ends (n + r) g' n'
    from_told zero n below e = ⊎_elim
        (λ f. absurd (refused≢accepted (sym (from_refused bytes g 0 (8 + 18 * n) n f.is) ∙ e)))
        (λ f. ⊎_elim
        (λ R. absurd (refused≢accepted (sym (from_full bytes g n R) ∙ e)))
        (λ R. ends_here 0 n below R (sym (from_closing bytes g 0 n R) ∙ e))
        (fine_later bytes (8 + 18 * n) f))
        (found_or_none (record_fault bytes later (8 + 18 * n)))
    from_told (suc r) n below e = ⊎_elim
        (λ f. absurd (refused≢accepted (sym (from_refused bytes g (suc r) (8 + 18 * n) n f.is) ∙ e)))
        (λ f. ⊎_elim
        (λ R.
        let next : 8 + 18 * n + 18 ≡ 8 + 18 * (n + 1) = omega arith in
        let more : n + 1 + r ≡ n + suc r = omega arith in
        subst (λ (room : ℕ). Ends room g' n') more (from_told r (n + 1)
        (λ k h. dite (ℕ_discrete k n) (λ d. subst (λ (i : ℕ). RecordAt bytes 2 (8 + 18 * i) (8 + 18 * i + 18)) (sym d) R) (λ d. below k (omega arith)))
        (ap (λ (at : ℕ). read_from bytes g r at (n + 1)) (sym next) ∙ sym (from_link bytes g r n R) ∙ e)))
        (λ R. ends_here (suc r) n below R (sym (from_closing bytes g (suc r) n R) ∙ e))
        (fine_later bytes (8 + 18 * n) f))
        (found_or_none (record_fault bytes later (8 + 18 * n)))

module _ (bytes : List ℕ) (room : ℕ) {g n : ℕ} (e : read_of bytes room ≡ accepted g n) where
  opened : RecordAt bytes 1 0 8
  opened = ⊎_elim (λ f. absurd (refused≢accepted (sym (opening_refused bytes room f.is) ∙ e))) (opening_record bytes room) (found_or_none (record_fault bytes first 0))

  ends : Ends bytes (number 2 bytes 6) (0 + room) g n
  ends = from_told bytes (number 2 bytes 6) room 0 (λ k h. absurd (not-suc-le-zero h)) (sym (opening_read bytes room opened) ∙ e)

  -- the links of an accepted file fit into the room
  pub told_fits : n ≤ room
  told_fits = omega (arith, ends.fits)

  pub told_whole : Whole bytes g n
  told_whole =
      record { opening = opened; gauges = ends.gauges; links = ends.links; closing = ends.closing; counted = ends.counted; ended = ends.ended }

-- ---- what becomes of the lent numbers

module _ (bytes numbers : List ℕ) {g n : ℕ} (e : read_of bytes (length numbers / 4) ≡ accepted g n) where
  -- there are numbers lent for the links of an accepted file
  pub told_room : 4 * n ≤ length numbers
  told_room = omega (arith, told_fits bytes (length numbers / 4) e)

  -- the lent numbers that they go to
  pub told_front : length (take (4 * n) numbers) ≡ 4 * n
  told_front = length-take-le (4 * n) numbers told_room

  pub told_count : count (take (4 * n) numbers) ≡ n
  told_count = omega (arith, told_front)

  pub numbers_taken : {front : List ℕ} → Put (take (4 * n) numbers) 0 (numbers_of bytes (count (take (4 * n) numbers))) front
      → front ++ drop (4 * n) numbers ≡ numbers_after (read_of bytes (length numbers / 4)) bytes numbers
  numbers_taken {front} p =
      let long : length (numbers_of bytes n) ≡ 4 * n = length_numbers bytes n in
      ap (λ (xs : List ℕ). xs ++ drop (4 * n) numbers) (put_all (omega (arith, long, told_front)) (subst (λ (k : ℕ). Put (take (4 * n) numbers) 0 (numbers_of bytes k) front) told_count p))
      ∙ ap (λ (k : ℕ). numbers_of bytes n ++ drop k numbers) (sym long)
      ∙ ap (λ (o : Outcome). numbers_after o bytes numbers) (sym e)

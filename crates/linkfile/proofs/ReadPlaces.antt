-- Where a file is refused: the reasons are 20 to 25, and the offset lies in the file or at its end. Assumes nothing.
use mathlib.Core.Bool.{Bool, true, false, not}
use mathlib.Core.Path.{◌≡◌, refl, subst}
use mathlib.Core.List.{List}
use Prim.Native.Nat.{ℕ, zero, suc, ◌+◌, ◌-◌, ◌≤◌}
use native.Mathlib.Omega.{arith}
use lib.Dec.{eqb, ltb}
use lib.ListN.{length}
use Rattle.links.specs.Faults.{Fault, no_fault, fault, if_so, ◌or_else◌}
use Rattle.linkfile.specs.Numbers.{number}
use Rattle.linkfile.specs.Records.{length_of, size_at, kind_at, first, later}
use Rattle.linkfile.specs.Reading.{Outcome, accepted, refused, ◌then◌, frame_fault, record_fault, next_at, closing_fault, by_kind, read_from, read_of}
use Rattle.linkfile.proofs.ReadLaws.{record_told}

-- a reason of the reader, and a place upto the end
pub record Place (end n p : ℕ) : Type 0 where
  pub reason : n ≤ 25
  pub place : p ≤ end

module _ (bytes : List ℕ) where
  abbrev InFault : Fault → Type 0
  InFault no_fault = Unit
  InFault (fault n p) = Place (length bytes) n p

  abbrev InOutcome : Outcome → Type 0
  InOutcome (accepted g n) = Unit
  InOutcome (refused n p) = Place (length bytes) n p

  in_if : (b : Bool) (n p : ℕ) → p ≤ length bytes → n ≤ 25 → InFault (if_so b n p)
  in_if true n p h l = record { reason = l; place = h }
  in_if false n p h l = tt

  in_or : (f g : Fault) → InFault f → InFault g → InFault (f or_else g)
  in_or no_fault g v w = w
  in_or (fault n p) g v w = v

  in_then : (f : Fault) (o : Outcome) → InFault f → (f ≡ no_fault → InOutcome o) → InOutcome (f then o)
  in_then no_fault o v w = w refl
  in_then (fault n p) o v w = v

  in_kind : (b : Bool) (o o' : Outcome) → InOutcome o → InOutcome o' → InOutcome (by_kind b o o')
  in_kind true o o' v w = v
  in_kind false o o' v w = w

  in_record : (allowed : ℕ → Bool) (at : ℕ) → at ≤ length bytes → InFault (record_fault bytes allowed at)
  in_record allowed at h =
      let short = ltb (length bytes - at) 4 in
      let cut = ltb (length bytes - at - 4) (size_at bytes at) in
      let small = ltb (size_at bytes at) 2 in
      let kind = not (allowed (kind_at bytes at)) in
      let size = not (eqb (size_at bytes at) (length_of (kind_at bytes at))) in
      in_or (frame_fault bytes at or_else if_so kind 21 at) (if_so size 22 at)
      (in_or (frame_fault bytes at) (if_so kind 21 at)
      (in_or (if_so short 20 at or_else if_so cut 20 at) (if_so small 22 at)
      (in_or (if_so short 20 at) (if_so cut 20 at) (in_if short 20 at h (omega arith)) (in_if cut 20 at h (omega arith)))
      (in_if small 22 at h (omega arith)))
      (in_if kind 21 at h (omega arith)))
      (in_if size 22 at h (omega arith))

  -- the record after a sound one starts in the file or at its end
  next_in : (allowed : ℕ → Bool) (at : ℕ) → record_fault bytes allowed at ≡ no_fault → next_at bytes at ≤ length bytes
  next_in allowed at e = (record_told bytes at allowed e).framed.whole

  in_closing : (at n : ℕ) → at ≤ length bytes → next_at bytes at ≤ length bytes → InFault (closing_fault bytes at n)
  in_closing at n h l =
      let count = not (eqb (number 4 bytes (at + 6)) n) in
      let after = ltb (next_at bytes at) (length bytes) in
      in_or (if_so count 23 at) (if_so after 24 (next_at bytes at)) (in_if count 23 at h (omega arith)) (in_if after 24 (next_at bytes at) l (omega arith))

  in_end : (g at n : ℕ) → at ≤ length bytes → next_at bytes at ≤ length bytes → InOutcome (closing_fault bytes at n then accepted g n)
  in_end g at n h l = in_then (closing_fault bytes at n) _ (in_closing at n h l) (λ _. tt)

  in_from : (g r at n : ℕ) → at ≤ length bytes → InOutcome (read_from bytes g r at n)
  unfolding read_from
  in_from g zero at n h =
      in_then (record_fault bytes later at) _ (in_record later at h) (λ e.
      in_kind (eqb (kind_at bytes at) 2) _ _ (record { reason = omega arith; place = h }) (in_end g at n h (next_in later at e)))
  in_from g (suc r) at n h =
      in_then (record_fault bytes later at) _ (in_record later at h) (λ e.
      in_kind (eqb (kind_at bytes at) 2) _ _ (in_from g r (next_at bytes at) (n + 1) (next_in later at e)) (in_end g at n h (next_in later at e)))

  -- where the reader refuses a file
  pub refused_place : (room : ℕ) {n p : ℕ} → read_of bytes room ≡ refused n p → Place (length bytes) n p
  unfolding read_of
  refused_place room e =
      subst InOutcome e
      (in_then (record_fault bytes first 0) _ (in_record first 0 (omega arith)) (λ d. in_from (number 2 bytes 6) room (next_at bytes 0) 0 (next_in first 0 d)))

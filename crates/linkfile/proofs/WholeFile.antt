-- A written file and a file that is accepted, by their records: the file of a table is whole, a whole file is accepted, and a whole file is the file of its numbers.
-- Assumes nothing.
use mathlib.Core.Logic.{dite}
use mathlib.Core.Path.{◌≡◌, refl, sym, ap, subst, ◌∙◌}
use mathlib.Core.List.{List, [], ◌∷◌, ◌++◌}
use Prim.Native.Nat.{ℕ, zero, suc, ◌+◌, ◌*◌, ◌^◌, ◌≤◌, ◌<◌}
use native.Mathlib.Decide.{ℕ_discrete}
use native.Mathlib.Nat.{not-suc-le-zero}
use native.Mathlib.Omega.{arith}
use lib.ListN.{length, get_or}
use lib.Seq.{sets}
use Rattle.links.specs.Links.{count, begins, ends, one, other, Accepted}
use Rattle.linkfile.specs.Numbers.{number, bytes_of, Bytes}
use Rattle.linkfile.specs.Records.{length_of}
use Rattle.linkfile.specs.Steps.{Put, RecordAt}
use Rattle.linkfile.specs.Files.{head_of, link_record, link_records, file_of}
use Rattle.linkfile.specs.Reading.{accepted, read_from, read_of, link_at, numbers_of}
use Rattle.linkfile.proofs.NumberLaws.{length_bytes, put_then, put_as, put_all, put_same, Holds, holds_whole, holds_left, holds_right, holds_number, same_field}
use Rattle.linkfile.proofs.FileLaws.{length_head, to_b, to_e, to_u, length_b, length_e, length_u, length_links, to_opening, to_links, to_closing, length_to_opening, length_to_links, length_to_closing, length_file, put_link, put_links_none, put_links_next, put_file, length_numbers, numbers_none, numbers_next}
use Rattle.linkfile.proofs.ReadLaws.{from_link, from_closing, closing_fine, opening_read}
use Rattle.linkfile.proofs.ReadTold.{Whole}

-- ---- a whole file is accepted

module _ {bytes : List ℕ} {g n : ℕ} (W : Whole bytes g n) where
  from_whole : (j k r : ℕ) → k + j ≡ n → j ≤ r → read_from bytes g r (8 + 18 * k) k ≡ accepted g n
  from_whole zero k r e h =
      let same : k ≡ n = omega arith in
      ap (λ (i : ℕ). read_from bytes g r (8 + 18 * i) i) same
      ∙ from_closing bytes g r n W.closing
      ∙ closing_fine W.closing g n W.counted (omega (arith, W.ended))
  from_whole (suc j) k zero e h = absurd (not-suc-le-zero h)
  from_whole (suc j) k (suc r) e h =
      let next : 8 + 18 * k + 18 ≡ 8 + 18 * (k + 1) = omega arith in
      from_link bytes g r k (W.links k (omega arith))
      ∙ ap (λ (at : ℕ). read_from bytes g r at (k + 1)) next
      ∙ from_whole j (k + 1) r (omega arith) (omega arith)

  pub whole_reads : (room : ℕ) → n ≤ room → read_of bytes room ≡ accepted g n
  whole_reads room h =
      opening_read bytes room W.opening ∙ ap (λ (x : ℕ). read_from bytes x room 8 0) W.gauges ∙ from_whole n 0 room (omega arith) h

-- ---- the file of a table is whole

-- the record of each link below n, where the records of all of them stand
link_held : {l : List ℕ} {at : ℕ} (t : List ℕ) (n k : ℕ) → k < n → Holds l at (link_records t n) → Holds l (at + 18 * k) (link_record t k)
unfolding link_records
link_held t zero k h H = absurd (not-suc-le-zero h)
link_held {l} {at} t (suc n) k h H = dite (ℕ_discrete k n)
    (λ e. holds_right (link_records t n) (link_record t k) (subst (λ (i : ℕ). Holds l at (link_records t n ++ link_record t i)) (sym e) H) (omega (arith, length_links t n)))
    (λ d. link_held t n k (omega arith) (holds_left (link_records t n) (link_record t n) H))

-- a record that begins as one of its kind
head_held : {l : List ℕ} {at next : ℕ} (kind : ℕ) → length_of kind < 256 ^ 4 → kind < 256 ^ 2 → Holds l at (head_of kind)
    → next ≡ at + 4 + length_of kind
    → next ≤ length l
    → RecordAt l kind at next
head_held kind h k H e whole = record {
  size = holds_number 4 (length_of kind) h (holds_left (bytes_of 4 (length_of kind)) (bytes_of 2 kind) H);
  kind_is = holds_number 2 kind k (holds_right (bytes_of 4 (length_of kind)) (bytes_of 2 kind) H (omega (arith, length_bytes 4 (length_of kind))));
  next_is = e;
  whole = whole;
}

-- the four numbers of a link, where its record stands
record Carries (l : List ℕ) (at : ℕ) (t : List ℕ) (i : ℕ) : Type 0 where
  b_is : number 4 l (at + 6) ≡ begins t i
  e_is : number 4 l (at + 10) ≡ ends t i
  u_is : number 2 l (at + 14) ≡ one t i
  v_is : number 2 l (at + 16) ≡ other t i

module _ {t : List ℕ} {g : ℕ} (A : Accepted t g) where
  module _ {l : List ℕ} {at : ℕ} (i : ℕ) (there : i < count t) (H : Holds l at (link_record t i)) where
    to_other : Holds l at (to_u t i)
    to_other = holds_left (to_u t i) (bytes_of 2 (other t i)) H

    to_one : Holds l at (to_e t i)
    to_one = holds_left (to_e t i) (bytes_of 2 (one t i)) to_other

    to_end : Holds l at (to_b t i)
    to_end = holds_left (to_b t i) (bytes_of 4 (ends t i)) to_one

    carried : Carries l at t i
    carried = record {
      b_is = holds_number 4 (begins t i) (omega (arith, A.forward i there, A.in_time i there))
          (holds_right (head_of 2) (bytes_of 4 (begins t i)) to_end (omega (arith, length_head 2)));
      e_is = holds_number 4 (ends t i) (omega (arith, A.in_time i there)) (holds_right (to_b t i) (bytes_of 4 (ends t i)) to_one (omega (arith, length_b t i)));
      u_is = holds_number 2 (one t i) (omega (arith, A.known_one i there, A.few_gauges))
          (holds_right (to_e t i) (bytes_of 2 (one t i)) to_other (omega (arith, length_e t i)));
      v_is = holds_number 2 (other t i) (omega (arith, A.known_other i there, A.few_gauges))
          (holds_right (to_u t i) (bytes_of 2 (other t i)) H (omega (arith, length_u t i)));
    }

    begun : Holds l at (head_of 2)
    begun = holds_left (head_of 2) (bytes_of 4 (begins t i)) to_end

  all_held : Holds (file_of t g) 0 (to_closing t g ++ bytes_of 4 (count t))
  unfolding file_of
  all_held = holds_whole (file_of t g)

  closing_held : Holds (file_of t g) 0 (to_closing t g)
  closing_held = holds_left (to_closing t g) (bytes_of 4 (count t)) all_held

  links_held : Holds (file_of t g) 0 (to_links t g)
  links_held = holds_left (to_links t g) (head_of 3) closing_held

  opening_held : Holds (file_of t g) 0 (to_opening g)
  opening_held = holds_left (to_opening g) (link_records t (count t)) links_held

  one_held : (k : ℕ) → k < count t → Holds (file_of t g) (8 + 18 * k) (link_record t k)
  one_held k h = link_held t (count t) k h (holds_right (to_opening g) (link_records t (count t)) links_held (omega (arith, length_to_opening t g)))

  pub written_whole : Whole (file_of t g) g (count t)
  written_whole = record {
    opening = head_held 1 (omega arith) (omega arith) (holds_left (head_of 1) (bytes_of 2 g) opening_held) refl (omega (arith, length_file t g));
    gauges = holds_number 2 g (omega (arith, A.few_gauges)) (holds_right (head_of 1) (bytes_of 2 g) opening_held (omega (arith, length_head 1)));
    links = λ k h. head_held 2 (omega arith) (omega arith) (begun k h (one_held k h)) (omega arith) (omega (arith, length_file t g));
    closing = head_held 3 (omega arith) (omega arith) (holds_right (to_links t g) (head_of 3) closing_held (omega (arith, length_to_links t g)))
        (omega arith) (omega (arith, length_file t g));
    counted = holds_number 4 (count t) (omega (arith, A.few)) (holds_right (to_closing t g) (bytes_of 4 (count t)) all_held (omega (arith, length_to_closing t g)));
    ended = length_file t g;
  }

  -- ---- and its numbers are the table's

  numbers_there : (k : ℕ) → k ≤ count t → Put t 0 (numbers_of (file_of t g) k) t
  numbers_there zero h = numbers_none (file_of t g)
  numbers_there (suc k) h =
      let c = carried k h (one_held k h) in
      let i = 4 * k in
      let same : Put t i (get_or t i 0 ∷ get_or t (i + 1) 0 ∷ get_or t (i + 2) 0 ∷ get_or t (i + 3) 0 ∷ []) t = put_same t i in
      subst (λ (n : ℕ). Put t 0 (numbers_of (file_of t g) n) t) (omega arith)
      (numbers_next (file_of t g) k (numbers_there k (omega arith)) (put_as (λ p. c.b_is p ∷ c.e_is p ∷ c.u_is p ∷ c.v_is p ∷ []) same))

  pub written_numbers : numbers_of (file_of t g) (count t) ≡ t
  written_numbers = sym (put_all (omega (arith, length_numbers (file_of t g) (count t), A.whole)) (numbers_there (count t) (omega arith)))

-- ---- a whole file is the file of its numbers

-- the numbers of each link below n, where the numbers of all of them stand
number_held : {l : List ℕ} {at m : ℕ} (bytes : List ℕ) (n k : ℕ) → k < n → Holds l at (numbers_of bytes n) → m ≡ at + 4 * k → Holds l m (link_at bytes (8 + 18 * k))
unfolding numbers_of
number_held bytes zero k h H e = absurd (not-suc-le-zero h)
number_held {l} {at} bytes (suc n) k h H e = dite (ℕ_discrete k n)
    (λ d. holds_right (numbers_of bytes n) (link_at bytes (8 + 18 * k))
    (subst (λ (i : ℕ). Holds l at (numbers_of bytes n ++ link_at bytes (8 + 18 * i))) (sym d) H) (omega (arith, length_numbers bytes n)))
    (λ d. number_held bytes n k (omega arith) (holds_left (numbers_of bytes n) (link_at bytes (8 + 18 * n)) H) e)

-- how many links the numbers of n links are
pub count_numbers : (bytes : List ℕ) (n : ℕ) → count (numbers_of bytes n) ≡ n
count_numbers bytes n = omega (arith, length_numbers bytes n)

module _ {bytes : List ℕ} (B : Bytes bytes) where
  -- to store the bytes of a number where they stand changes nothing
  field : (w at : ℕ) {n : ℕ} → number w bytes at ≡ n → Put bytes at (bytes_of w n) bytes
  field w at e = record { is = sym (ap (λ (k : ℕ). sets bytes at (bytes_of w k)) (sym e) ∙ same_field w at B) }

  head : {kind at next : ℕ} → RecordAt bytes kind at next → Put bytes at (head_of kind) bytes
  head {kind} {at} R = put_then (field 4 at R.size) (field 2 (at + 4) R.kind_is) (omega (arith, length_bytes 4 (length_of kind)))

  module _ {g n : ℕ} (W : Whole bytes g n) where
    links_there : (k : ℕ) → k ≤ n → Put bytes 8 (link_records (numbers_of bytes n) k) bytes
    links_there zero h = put_links_none (numbers_of bytes n)
    links_there (suc k) h =
        let t = numbers_of bytes n in
        let at = 8 + 18 * k in
        let H : Holds t (4 * k) (link_at bytes at) = number_held bytes n k h (holds_whole t) (omega arith) in
        let z : 4 * k ≡ 4 * k + 0 = omega arith in
        let b : begins t k ≡ number 4 bytes (at + 6) = ap (λ (i : ℕ). get_or t i 0) z ∙ H.there 0 (omega arith) in
        let e : ends t k ≡ number 4 bytes (at + 10) = H.there 1 (omega arith) in
        let u : one t k ≡ number 2 bytes (at + 14) = H.there 2 (omega arith) in
        let v : other t k ≡ number 2 bytes (at + 16) = H.there 3 (omega arith) in
        subst (λ (i : ℕ). Put bytes 8 (link_records t i) bytes) (omega arith)
        (put_links_next t k (links_there k (omega arith))
        (put_link t k (head (W.links k h)) (field 4 (at + 6) (sym b)) (field 4 (at + 10) (sym e)) (field 2 (at + 14) (sym u)) (field 2 (at + 16) (sym v))))

    pub whole_file : bytes ≡ file_of (numbers_of bytes n) g
    whole_file =
        let t = numbers_of bytes n in
        let is : n ≡ count t = sym (count_numbers bytes n) in
        let W' : Whole bytes g (count t) = subst (Whole bytes g) is W in
        let links : Put bytes 8 (link_records t (count t)) bytes = subst (λ (i : ℕ). Put bytes 8 (link_records t i) bytes) is (links_there n (omega arith)) in
        put_all (length_file t g ∙ sym W'.ended)
        (put_file t g (head W.opening) (field 2 6 W.gauges) links (head W'.closing) (field 4 (8 + 18 * count t + 6) W'.counted))

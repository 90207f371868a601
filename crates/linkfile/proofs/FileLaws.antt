-- The file of a table, as it is put together and by its length: the opening record has 8 bytes, a link record 18 and the closing record 10. Assumes nothing.
use mathlib.Core.Path.{◌≡◌, refl, sym, subst, ◌∙◌}
use mathlib.Core.List.{List, ◌++◌}
use Prim.Native.Nat.{ℕ, zero, suc, ◌+◌, ◌*◌}
use native.Mathlib.Numerals.{add-one}
use native.Mathlib.Omega.{arith}
use lib.ListN.{length, length-append}
use Rattle.links.specs.Links.{count, begins, ends, one, other}
use Rattle.linkfile.specs.Numbers.{bytes_of}
use Rattle.linkfile.specs.Steps.{Put}
use Rattle.linkfile.specs.Records.{length_of}
use Rattle.linkfile.specs.Files.{head_of, link_record, link_records, file_of}
use Rattle.linkfile.specs.Reading.{link_at, numbers_of}
use Rattle.linkfile.proofs.NumberLaws.{length_bytes, put_then, put_none}

-- ---- lengths

-- the length of two parts
joined : (xs ys : List ℕ) {m n : ℕ} → length xs ≡ m → length ys ≡ n → length (xs ++ ys) ≡ m + n
joined xs ys d e = omega (arith, length-append xs ys)

pub length_head : (kind : ℕ) → length (head_of kind) ≡ 6
length_head kind = joined (bytes_of 4 (length_of kind)) (bytes_of 2 kind) (length_bytes 4 _) (length_bytes 2 _)

-- a link record up to its b, its e and its u
abbrev pub to_b : List ℕ → ℕ → List ℕ
to_b t i = head_of 2 ++ bytes_of 4 (begins t i)

abbrev pub to_e : List ℕ → ℕ → List ℕ
to_e t i = to_b t i ++ bytes_of 4 (ends t i)

abbrev pub to_u : List ℕ → ℕ → List ℕ
to_u t i = to_e t i ++ bytes_of 2 (one t i)

module _ (t : List ℕ) (i : ℕ) where
  pub length_b : length (to_b t i) ≡ 10
  length_b = joined (head_of 2) (bytes_of 4 (begins t i)) (length_head 2) (length_bytes 4 _)

  pub length_e : length (to_e t i) ≡ 14
  length_e = joined (to_b t i) (bytes_of 4 (ends t i)) length_b (length_bytes 4 _)

  pub length_u : length (to_u t i) ≡ 16
  length_u = joined (to_e t i) (bytes_of 2 (one t i)) length_e (length_bytes 2 _)

  pub length_link : length (link_record t i) ≡ 18
  length_link = joined (to_u t i) (bytes_of 2 (other t i)) length_u (length_bytes 2 _)

pub length_links : (t : List ℕ) (n : ℕ) → length (link_records t n) ≡ 18 * n
unfolding link_records
length_links t zero = refl
length_links t (suc n) = joined (link_records t n) (link_record t n) (length_links t n) (length_link t n) ∙ omega arith

-- the file up to its opening record, its links and the head of its closing record
abbrev pub to_opening : ℕ → List ℕ
to_opening g = head_of 1 ++ bytes_of 2 g

abbrev pub to_links : List ℕ → ℕ → List ℕ
to_links t g = to_opening g ++ link_records t (count t)

abbrev pub to_closing : List ℕ → ℕ → List ℕ
to_closing t g = to_links t g ++ head_of 3

module _ (t : List ℕ) (g : ℕ) where
  pub length_to_opening : length (to_opening g) ≡ 8
  length_to_opening = joined (head_of 1) (bytes_of 2 g) (length_head 1) (length_bytes 2 _)

  pub length_to_links : length (to_links t g) ≡ 8 + 18 * count t
  length_to_links = joined (to_opening g) (link_records t (count t)) length_to_opening (length_links t (count t))

  pub length_to_closing : length (to_closing t g) ≡ 8 + 18 * count t + 6
  length_to_closing = joined (to_links t g) (head_of 3) length_to_links (length_head 3)

  -- a file has 18 n + 18 bytes
  pub length_file : length (file_of t g) ≡ 18 * count t + 18
  unfolding file_of
  length_file = joined (to_closing t g) (bytes_of 4 (count t)) length_to_closing (length_bytes 4 _) ∙ omega arith

-- ---- putting a file together

module _ (t : List ℕ) (i : ℕ) {l l₁ l₂ l₃ l₄ l₅ : List ℕ} {at : ℕ} where
  pub put_link : Put l at (head_of 2) l₁
      → Put l₁ (at + 6) (bytes_of 4 (begins t i)) l₂
      → Put l₂ (at + 10) (bytes_of 4 (ends t i)) l₃
      → Put l₃ (at + 14) (bytes_of 2 (one t i)) l₄
      → Put l₄ (at + 16) (bytes_of 2 (other t i)) l₅
      → Put l at (link_record t i) l₅
  put_link p b e u v =
      let pb : Put l at (to_b t i) l₂ = put_then p b (omega (arith, length_head 2)) in
      let pe : Put l at (to_e t i) l₃ = put_then pb e (omega (arith, length_b t i)) in
      let pu : Put l at (to_u t i) l₄ = put_then pe u (omega (arith, length_e t i)) in
      put_then pu v (omega (arith, length_u t i))

pub put_links_none : (t : List ℕ) {l : List ℕ} {at : ℕ} → Put l at (link_records t 0) l
unfolding link_records
put_links_none t = put_none

pub put_links_next : (t : List ℕ) (i : ℕ) {l l₁ l₂ : List ℕ} → Put l 8 (link_records t i) l₁ → Put l₁ (8 + 18 * i) (link_record t i) l₂
    → Put l 8 (link_records t (i + 1)) l₂
unfolding link_records
put_links_next t i {l} {l₁} {l₂} p q =
    subst (λ (k : ℕ). Put l 8 (link_records t k) l₂) (sym (add-one i)) (put_then p q (omega (arith, length_links t i)))

module _ (t : List ℕ) (g : ℕ) {l l₁ l₂ l₃ l₄ l₅ : List ℕ} where
  pub put_file : Put l 0 (head_of 1) l₁
      → Put l₁ 6 (bytes_of 2 g) l₂
      → Put l₂ 8 (link_records t (count t)) l₃
      → Put l₃ (8 + 18 * count t) (head_of 3) l₄
      → Put l₄ (8 + 18 * count t + 6) (bytes_of 4 (count t)) l₅
      → Put l 0 (file_of t g) l₅
  unfolding file_of
  put_file h o k c n =
      let po : Put l 0 (to_opening g) l₂ = put_then h o (omega (arith, length_head 1)) in
      let pl : Put l 0 (to_links t g) l₃ = put_then po k (omega (arith, length_to_opening t g)) in
      let pc : Put l 0 (to_closing t g) l₄ = put_then pl c (omega (arith, length_to_links t g)) in
      put_then pc n (omega (arith, length_to_closing t g))

-- ---- the numbers of a file

pub length_numbers : (bytes : List ℕ) (n : ℕ) → length (numbers_of bytes n) ≡ 4 * n
unfolding numbers_of
length_numbers bytes zero = refl
length_numbers bytes (suc n) = joined (numbers_of bytes n) (link_at bytes (8 + 18 * n)) (length_numbers bytes n) refl ∙ omega arith

pub numbers_none : (bytes : List ℕ) {l : List ℕ} → Put l 0 (numbers_of bytes 0) l
unfolding numbers_of
numbers_none bytes = put_none

pub numbers_next : (bytes : List ℕ) (k : ℕ) {l l₁ l₂ : List ℕ} → Put l 0 (numbers_of bytes k) l₁ → Put l₁ (4 * k) (link_at bytes (8 + 18 * k)) l₂
    → Put l 0 (numbers_of bytes (k + 1)) l₂
unfolding numbers_of
numbers_next bytes k {l} {l₁} {l₂} p q =
    subst (λ (i : ℕ). Put l 0 (numbers_of bytes i) l₂) (sym (add-one k)) (put_then p q (omega (arith, length_numbers bytes k)))

-- Numbers of bytes: what stands at a place after stores, how a number's bytes read, and that bytes are those of their number. Each law holds at every width.
-- Assumes nothing.
use mathlib.Core.Path.{◌≡◌, refl, sym, ap, ◌∙◌}
use mathlib.Core.List.{List, [], ◌∷◌, ◌++◌, append-nil, append_assoc}
use Prim.Native.Nat.{ℕ, zero, suc, ◌+◌, ◌-◌, ◌*◌, ◌/◌, ◌%◌, ◌^◌, ◌≤◌, ◌<◌}
use native.Mathlib.Nat.{pow-suc}
use native.Mathlib.Numerals.{add-one}
use native.Mathlib.Omega.{arith}
use lib.ListN.{length, get_or, set, take, drop, length-append, length-drop, drop_of_length-le, get_or-append}
use lib.Seq.{sets, sets-eq, length-take-le, take_all, drop-drop, drop-cons, set-get_or, get_or-append-add}
use borrow.Rule.Slice.PartMut.{put_mid}
use Rattle.linkfile.specs.Numbers.{number, bytes_of, overwrite, Bytes}
use Rattle.linkfile.specs.Steps.{Number, Put}

-- ---- stores

-- runs of stores one behind the other are one run
pub sets_then : (xs ys l : List ℕ) (i : ℕ) {m : ℕ} → m ≡ i + length xs → sets (sets l i xs) m ys ≡ sets l i (xs ++ ys)
sets_then [] ys l i {m} e = let d : m ≡ i = omega arith in ap (λ (k : ℕ). sets l k ys) d
sets_then (x ∷ xs) ys l i e = sets_then xs ys (set l i x) (suc i) (omega arith)

pub put_then : {l l₁ l₂ xs ys : List ℕ} {i m : ℕ} → Put l i xs l₁ → Put l₁ m ys l₂ → m ≡ i + length xs → Put l i (xs ++ ys) l₂
put_then {l} {xs = xs} {ys = ys} {i = i} {m = m} p q e =
    record { is = q.is ∙ ap (λ (k : List ℕ). sets k m ys) p.is ∙ sets_then xs ys l i e }

-- the same under another name for what is stored
pub put_as : {l l' xs ys : List ℕ} {i : ℕ} → ys ≡ xs → Put l i xs l' → Put l i ys l'
put_as {l} {i = i} e p = record { is = p.is ∙ ap (sets l i) (sym e) }

-- nothing is stored yet
pub put_none : {l : List ℕ} {i : ℕ} → Put l i [] l
put_none = record { is = refl }

-- four stores, as code counts
pub put_four : (l : List ℕ) (i a b c d : ℕ) → Put l i (a ∷ b ∷ c ∷ d ∷ []) (set (set (set (set l i a) (i + 1) b) (i + 2) c) (i + 3) d)
put_four l i a b c d =
    let e₁ : i + 1 ≡ suc i = omega arith in
    let e₂ : i + 2 ≡ suc (suc i) = omega arith in
    let e₃ : i + 3 ≡ suc (suc (suc i)) = omega arith in
    record { is = λ p. set (set (set (set l i a) (e₁ p) b) (e₂ p) c) (e₃ p) d }

-- what is stored over the front of a list
pub put_front : {l xs l' : List ℕ} → length xs ≤ length l → Put l 0 xs l' → l' ≡ overwrite xs l
put_front {l} {xs} h p =
    let e : 0 + length xs ≡ length xs = omega arith in
    p.is ∙ sets-eq xs l 0 (omega arith) ∙ ap (λ (k : ℕ). xs ++ drop k l) e

-- and over all of it
pub put_all : {l xs l' : List ℕ} → length xs ≡ length l → Put l 0 xs l' → l' ≡ xs
put_all {l} {xs} h p =
    put_front (omega arith) p ∙ ap (λ (k : List ℕ). xs ++ k) (drop_of_length-le l {i = length xs} (omega arith)) ∙ append-nil xs

-- to store what stands there changes nothing
pub put_same : (l : List ℕ) (i : ℕ) → Put l i (get_or l i 0 ∷ get_or l (i + 1) 0 ∷ get_or l (i + 2) 0 ∷ get_or l (i + 3) 0 ∷ []) l
put_same l i =
    let at : (k : ℕ) → set l k (get_or l k 0) ≡ l = λ k. set-get_or l k 0 in
    let four = put_four l i (get_or l i 0) (get_or l (i + 1) 0) (get_or l (i + 2) 0) (get_or l (i + 3) 0) in
    record {
      is =
          sym (ap (λ (k : List ℕ). set (set (set k (i + 1) (get_or l (i + 1) 0)) (i + 2) (get_or l (i + 2) 0)) (i + 3) (get_or l (i + 3) 0)) (at i)
          ∙ ap (λ (k : List ℕ). set (set k (i + 2) (get_or l (i + 2) 0)) (i + 3) (get_or l (i + 3) 0)) (at (i + 1))
          ∙ ap (λ (k : List ℕ). set k (i + 3) (get_or l (i + 3) 0)) (at (i + 2))
          ∙ at (i + 3))
          ∙ four.is;
    }

-- ---- the bytes of a number

pub length_bytes : (w n : ℕ) → length (bytes_of w n) ≡ w
unfolding bytes_of
length_bytes zero n = refl
length_bytes (suc w) n = ap suc (length_bytes w (n / 256))

-- a number of w bytes is no larger than these hold
number_small : (w : ℕ) (bytes : List ℕ) (at : ℕ) → ((i : ℕ) → get_or bytes i 0 < 256) → number w bytes at < 256 ^ w
unfolding number
number_small zero bytes at b = omega arith
number_small (suc w) bytes at b = omega (arith, b at, number_small w bytes (at + 1) b, pow-suc 256 w)

-- the number of a list of bytes
worth : List ℕ → ℕ
worth [] = 0
worth (b ∷ bytes) = b + 256 * worth bytes

number_worth : (w : ℕ) (bytes : List ℕ) (at : ℕ) → at + w ≤ length bytes → number w bytes at ≡ worth (take w (drop at bytes))
unfolding number worth
number_worth zero bytes at h = refl
number_worth (suc w) bytes at h =
    ap (λ (n : ℕ). get_or bytes at 0 + 256 * n) (number_worth w bytes (at + 1) (omega arith) ∙ ap (λ (k : ℕ). worth (take w (drop k bytes))) (add-one at))
    ∙ ap (λ (l : List ℕ). worth (take (suc w) l)) (sym (drop-cons bytes at 0 (omega arith)))

worth_append : (xs ys : List ℕ) → worth ys ≡ 0 → worth (xs ++ ys) ≡ worth xs
unfolding worth
worth_append [] ys e = e
worth_append (x ∷ xs) ys e = ap (λ (n : ℕ). x + 256 * n) (worth_append xs ys e)

zeros : List ℕ
zeros = 0 ∷ 0 ∷ 0 ∷ 0 ∷ []

worth_zeros : (w : ℕ) → worth (drop w zeros) ≡ 0
unfolding worth zeros
worth_zeros zero = refl
worth_zeros (suc zero) = refl
worth_zeros (suc (suc zero)) = refl
worth_zeros (suc (suc (suc zero))) = refl
worth_zeros (suc (suc (suc (suc w)))) = ap worth (drop_of_length-le [] {i = w} (omega arith))

-- four bytes of which the upper ones are 0 have the number of the lower ones
pub number_read : (w : ℕ) (bytes : List ℕ) (at : ℕ) (four : List ℕ) {m : List ℕ} {r : ℕ} → w ≤ 4 → at + w ≤ length bytes → ((i : ℕ) → get_or bytes i 0 < 256)
    → m ≡ take (at + w - at) (drop at bytes) → four ≡ m ++ drop w (0 ∷ 0 ∷ 0 ∷ 0 ∷ [])
    → r ≡ get_or four 0 0 + get_or four 1 0 * 256 + get_or four 2 0 * 65536 + get_or four 3 0 * 16777216
    → Number w bytes at r
unfolding number zeros
number_read w bytes at four {m} {r} h inside b e f is =
    let k : at + w - at ≡ w = omega arith in
    let part : m ≡ take w (drop at bytes) = e ∙ ap (λ (n : ℕ). take n (drop at bytes)) k in
    let size : length m ≡ w = ap length part ∙ length-take-le w (drop at bytes) (omega (arith, length-drop at bytes)) in
    let whole : length four ≡ 4 = ap length f ∙ length-append m (drop w zeros) ∙ omega (arith, length-drop w zeros) in
    let same : number 4 four 0 ≡ number w bytes at =
    number_worth 4 four 0 (omega arith) ∙ ap worth (take_all 4 four (omega arith) ∙ f) ∙ worth_append m (drop w zeros) (worth_zeros w)
    ∙ ap worth part ∙ sym (number_worth w bytes at inside) in
    record { is = omega (arith, same); small = omega (arith, same, number_small w bytes at b) }

-- the lowest bytes of four are those of the number
pub lowest_bytes : (w n : ℕ) → w ≤ 4 → take w (n % 256 ∷ n / 256 % 256 ∷ n / 65536 % 256 ∷ n / 16777216 % 256 ∷ []) ≡ bytes_of w n
unfolding bytes_of
lowest_bytes zero n h = refl
lowest_bytes (suc zero) n h = refl
lowest_bytes (suc (suc zero)) n h = refl
lowest_bytes (suc (suc (suc zero))) n h =
    let e : n / 65536 ≡ n / 256 / 256 = omega arith in
    ap (λ (k : ℕ). n % 256 ∷ n / 256 % 256 ∷ k % 256 ∷ []) e
lowest_bytes (suc (suc (suc (suc zero)))) n h =
    let e : n / 65536 ≡ n / 256 / 256 = omega arith in
    let d : n / 16777216 ≡ n / 256 / 256 / 256 = omega arith in
    λ p. n % 256 ∷ n / 256 % 256 ∷ e p % 256 ∷ d p % 256 ∷ []
lowest_bytes (suc (suc (suc (suc (suc w))))) n h = absurd (omega arith)

-- what is copied over a part of a list is stored there
pub put_part : (l : List ℕ) (at w : ℕ) {xs ys : List ℕ} → ys ≡ xs → length xs ≡ w → at + w ≤ length l → Put l at xs (put_mid at (at + w - at) l ys)
put_part l at w {xs} {ys} e size inside =
    let k : at + (at + w - at) ≡ at + length xs = omega arith in
    let rest : drop (at + w - at) (drop at l) ≡ drop (at + length xs) l = drop-drop (at + w - at) at l ∙ ap (λ (n : ℕ). drop n l) k in
    record {
      is = (λ p. take at l ++ (e p ++ rest p)) ∙ sym (append_assoc (take at l) xs (drop (at + length xs) l)) ∙ sym (sets-eq xs l at (omega arith));
    }

-- ---- what stands at a place

-- xs stands in l from a place on
pub record Holds (l : List ℕ) (at : ℕ) (xs : List ℕ) : Type 0 where
  pub there : (i : ℕ) → i < length xs → get_or l (at + i) 0 ≡ get_or xs i 0

pub holds_whole : (l : List ℕ) → Holds l 0 l
holds_whole l = record { there = λ i h. let e : 0 + i ≡ i = omega arith in ap (λ (k : ℕ). get_or l k 0) e }

module _ {l : List ℕ} {at : ℕ} (xs ys : List ℕ) (H : Holds l at (xs ++ ys)) where
  pub holds_left : Holds l at xs
  holds_left = record { there = λ i h. H.there i (omega (arith, length-append xs ys)) ∙ get_or-append xs ys 0 i h }

  pub holds_right : {m : ℕ} → m ≡ at + length xs → Holds l m ys
  holds_right {m} e =
      record {
        there = λ i h.
            let d : m + i ≡ at + (length xs + i) = omega arith in
            ap (λ (k : ℕ). get_or l k 0) d ∙ H.there (length xs + i) (omega (arith, length-append xs ys)) ∙ get_or-append-add xs ys i 0;
      }

-- the number of the bytes of n is n, if n is no larger than w bytes hold
pub holds_number : (w n : ℕ) {l : List ℕ} {at : ℕ} → n < 256 ^ w → Holds l at (bytes_of w n) → number w l at ≡ n
unfolding number bytes_of
holds_number zero n h H = omega arith
holds_number (suc w) n {l} {at} h H =
    let z : at + 0 ≡ at = omega arith in
    let low : get_or l at 0 ≡ n % 256 = ap (λ (k : ℕ). get_or l k 0) (sym z) ∙ H.there 0 (omega arith) in
    let rest : Holds l (at + 1) (bytes_of w (n / 256)) = record {
      there = λ i b. let e : at + 1 + i ≡ at + suc i = omega arith in ap (λ (k : ℕ). get_or l k 0) e ∙ H.there (suc i) (omega arith);
    } in
    let high : number w l (at + 1) ≡ n / 256 = holds_number w (n / 256) (omega (arith, pow-suc 256 w)) rest in
    omega arith

-- and bytes are those of their number: to store these changes nothing
pub same_field : (w : ℕ) {l : List ℕ} (at : ℕ) → Bytes l → sets l at (bytes_of w (number w l at)) ≡ l
unfolding number bytes_of
same_field zero at b = refl
same_field (suc w) {l} at b =
    let low : (get_or l at 0 + 256 * number w l (at + 1)) % 256 ≡ get_or l at 0 = omega (arith, b.byte at) in
    let high : (get_or l at 0 + 256 * number w l (at + 1)) / 256 ≡ number w l (at + 1) = omega (arith, b.byte at) in
    let next : suc at ≡ at + 1 = omega arith in
    (λ p. sets (set l at (low p)) (next p) (bytes_of w (high p)))
    ∙ ap (λ (k : List ℕ). sets k (at + 1) (bytes_of w (number w l (at + 1)))) (set-get_or l at 0)
    ∙ same_field w (at + 1) b

-- Laws of the records' numbers, and of the array that they are copied to. Assumes nothing.
--     length_flat        four numbers a record
--     front ls xs i      after i records of ls: their numbers, and the rest of xs.        front_none     at the start
--     laid_next          one more record.        right_length     no record changes the length
--     copied_all         what has been copied at the end.             copied_stands  the records' numbers stand in front of it,  copied_rest  and the rest is as it was
--     laid_out           so `lay_out` answers what it promises
use mathlib.Core.Path.{◌≡◌, refl, sym, ◌∙◌, ap}
use mathlib.Core.List.{List, [], ◌∷◌, ◌++◌, append_assoc}
use Prim.Native.Nat.{ℕ, ◌+◌, ◌*◌, ◌<◌, ◌≤◌}
use native.Mathlib.Omega.{arith}
use native.Mathlib.Numerals.{add-one}
use lib.ListN.{length, take, drop, get_or, length-append, length-drop}
use lib.Seq.{take-suc, take_at, drop_at, drop-append-add, drop-drop, take-length, length-take-le}
use Rattle.std.specs.Prelude.{Ok}
use Rattle.records.specs.declared.Link.{Link}
use Rattle.records.specs.Flat.{flat}
use Rattle.records.specs.Copies.{laid, Copied, Stands, LaidOut}

pub length_flat : (ls : List Link) → length (flat ls) ≡ 4 * length ls
length_flat [] = refl
length_flat (l ∷ ls) = omega (arith, length_flat ls)

flat_append : (ls ms : List Link) → flat (ls ++ ms) ≡ flat ls ++ flat ms
flat_append [] ms = refl
flat_append (l ∷ ls) ms = rw (flat_append ls ms)

abbrev pub front : List Link → List ℕ → ℕ → List ℕ
front ls xs i = flat (take i ls) ++ drop (4 * i) xs

module _ (ls : List Link) (xs : List ℕ) where
  pub front_none : xs ≡ front ls xs 0
  front_none = refl

  front_all : front ls xs (length ls) ≡ flat ls ++ drop (4 * length ls) xs
  front_all = rw take-length

  module _ (i : ℕ) where
    head_length : i ≤ length ls → length (flat (take i ls)) ≡ 4 * i
    head_length h = length_flat (take i ls) ∙ ap (λ (n : ℕ). 4 * n) (length-take-le i ls h)

    front_length : i ≤ length ls → 4 * i ≤ length xs → length (front ls xs i) ≡ length xs
    front_length h fits = omega (arith, length-append (flat (take i ls)) (drop (4 * i) xs), head_length h, length-drop (4 * i) xs)

    front_next : (l : Link) → i < length ls → laid (front ls xs i) (4 * i) (get_or ls i l) ≡ front ls xs (i + 1)
    front_next l h =
        let P : List ℕ = flat (take i ls) in
        let Q : List ℕ = drop (4 * i) xs in
        let m : Link = get_or ls i l in
        let e : length P ≡ 4 * i = head_length (omega arith) in
        let on : 4 * i + 4 ≡ 4 * (i + 1) = omega arith in
        let kept : drop (4 * i + 4) (P ++ Q) ≡ drop (4 * (i + 1)) xs =
        ap (λ (n : ℕ). drop (n + 4) (P ++ Q)) (sym e) ∙ drop-append-add P Q 4 ∙ drop-drop 4 (4 * i) xs ∙ ap (λ (n : ℕ). drop n xs) on in
        let grown : flat (take (i + 1) ls) ≡ P ++ (m.b ∷ m.e ∷ m.u ∷ m.v ∷ []) =
        ap (λ (n : ℕ). flat (take n ls)) (add-one i) ∙ ap flat (take-suc ls i l h) ∙ flat_append (take i ls) (m ∷ []) in
        ap (λ (ns : List ℕ). ns ++ (m.b ∷ m.e ∷ m.u ∷ m.v ∷ drop (4 * i + 4) (P ++ Q))) (take_at P Q (4 * i) e)
        ∙ ap (λ (ns : List ℕ). P ++ (m.b ∷ m.e ∷ m.u ∷ m.v ∷ ns)) kept
        ∙ sym (append_assoc P (m.b ∷ m.e ∷ m.u ∷ m.v ∷ []) (drop (4 * (i + 1)) xs))
        ∙ ap (λ (ns : List ℕ). ns ++ drop (4 * (i + 1)) xs) (sym grown)

    -- the numbers ys, which are so far right, with the next record laid on them
    pub laid_next : (l : Link) {ys zs : List ℕ} → i < length ls → ys ≡ front ls xs i → zs ≡ laid ys (4 * i) (get_or ls i l) → zs ≡ front ls xs (i + 1)
    laid_next l h so next = next ∙ ap (λ (ns : List ℕ). laid ns (4 * i) (get_or ls i l)) so ∙ front_next l h

    pub right_length : {ys : List ℕ} → i ≤ length ls → 4 * i ≤ length xs → ys ≡ front ls xs i → length ys ≡ length xs
    right_length h fits so = ap length so ∙ front_length h fits

    pub copied_all : {ys : List ℕ} → length ls ≤ 2048 → i ≡ length ls → ys ≡ front ls xs i → Copied ls xs ys (length ls)
    copied_all few e so = record {
      count = refl;
      few = λ _. so ∙ ap (front ls xs) e ∙ front_all;
      many = λ more. absurd (omega arith);
    }

pub copied_stands : {ls : List Link} {before after : List ℕ} {n : ℕ} → Copied ls before after n → Stands (flat ls) after n
copied_stands {ls} {before} {after} {n} c =
    let long : length (flat ls) ≡ 4 * n = length_flat ls ∙ ap (λ (k : ℕ). 4 * k) (sym c.count) in record {
      size = long;
      front = λ h. ap (take (4 * n)) (c.few (omega (arith, c.count))) ∙ take_at (flat ls) (drop (4 * length ls) before) (4 * n) long;
    }

-- the rest of the array is as it was
copied_rest : {ls : List Link} {before after : List ℕ} {n : ℕ} → n ≤ 2048 → Copied ls before after n → drop (4 * n) after ≡ drop (4 * n) before
copied_rest {ls} {before} {after} {n} few c =
    let long : length (flat ls) ≡ 4 * n = length_flat ls ∙ ap (λ (k : ℕ). 4 * k) (sym c.count) in
    ap (drop (4 * n)) (c.few (omega (arith, c.count))) ∙ drop_at (flat ls) (drop (4 * length ls) before) (4 * n) long ∙ ap (λ (k : ℕ). drop (4 * k) before) (sym c.count)

-- all of them have been laid
pub laid_out : (ls : List Link) (xs : List ℕ) {ys : List ℕ} (i : ℕ) → length ls ≤ 2048 → length xs ≡ 8192 → i ≡ length ls → ys ≡ front ls xs i → LaidOut ls xs ys (Ok (4 * length ls))
laid_out ls xs i few size e so =
    let all : Copied ls xs _ (length ls) = copied_all ls xs i few e so in (
      omega (arith, right_length ls xs i (omega arith) (omega arith) so),
      (copied_stands all).front few,
      copied_rest few all,
    )

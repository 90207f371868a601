-- The text of the gauges, gauge by gauge: what the next one adds to it, and how long it is at most. Assumes nothing.
use mathlib.Core.Bool.{Bool, true, false}
use mathlib.Core.List.{List, [], ◌∷◌, ◌++◌, append_assoc, append-nil}
use mathlib.Core.Path.{◌≡◌, refl, sym, ap, subst, ◌∙◌}
use Prim.Native.Nat.{ℕ, zero, suc, ◌+◌, ◌-◌, ◌*◌, ◌≤◌, ◌<◌}
use native.Mathlib.Nat.{le_refl}
use native.Mathlib.Numerals.{add-one}
use native.Mathlib.Omega.{arith}
use borrow.Author.Tests.{eq-eqb, ne_eqb}
use lib.Dec.{eqb}
use lib.ListN.{length, length-append}
use Rattle.gauges.specs.Sets.{Member, set_of}
use Rattle.gauges.proofs.Flags.{told_true, told_false}
use Rattle.gauges.proofs.Laws.{tells_member}
use Rattle.lines.specs.Text.{by_test, decimal, commas, gauges_below, gauges_text}
use Rattle.lines.specs.declared.write.Writer.{Writer}
use Rattle.lines.specs.Pieces.{more, Adds}
use Rattle.lines.proofs.Placing.{adds_then, adds_as}
use Rattle.lines.proofs.Decimals.{length_most, length_pos}

-- the text of the gauges of m below k
abbrev pub text_below : ℕ → ℕ → List ℕ
text_below m k = commas (gauges_below m k)

-- ---- the three cases of what a gauge adds

module _ (m k n : ℕ) where
  pub more_first : Member k m → n ≡ 0 → more m k n ≡ decimal k
  more_first h e = rw (told_true (tells_member k m) h, eq-eqb n 0 e)

  pub more_next : Member k m → (n ≡ 0 → ⊥) → more m k n ≡ 44 ∷ decimal k
  more_next h f = rw (told_true (tells_member k m) h, ne_eqb n 0 f)

  pub more_none : (Member k m → ⊥) → more m k n ≡ []
  more_none f = rw (told_false (tells_member k m) f)

-- ---- one gauge more

-- a list of numbers that is not empty has a text that is not, and a number behind them comes with a comma
commas_pos : (n : ℕ) (ns : List ℕ) → 1 ≤ length (commas (n ∷ ns))
unfolding commas
commas_pos n [] = length_pos n
commas_pos n (m ∷ ms) = omega (arith, length-append (decimal n) (44 ∷ commas (m ∷ ms)))

commas_behind : (n : ℕ) (ns : List ℕ) (k : ℕ) → commas ((n ∷ ns) ++ (k ∷ [])) ≡ commas (n ∷ ns) ++ (44 ∷ decimal k)
unfolding commas
commas_behind n [] k = refl
commas_behind n (m ∷ ms) k =
    ap (λ (t : List ℕ). decimal n ++ (44 ∷ t)) (commas_behind m ms k) ∙ sym (append_assoc (decimal n) (44 ∷ commas (m ∷ ms)) (44 ∷ decimal k))

commas_more : (ns : List ℕ) (k : ℕ) → commas (ns ++ (k ∷ [])) ≡ commas ns ++ by_test (eqb (length (commas ns)) 0) (decimal k) (44 ∷ decimal k)
unfolding commas
commas_more [] k = refl
commas_more (n ∷ ns) k =
    commas_behind n ns k
    ∙ ap (λ (b : Bool). commas (n ∷ ns) ++ by_test b (decimal k) (44 ∷ decimal k)) (sym (ne_eqb (length (commas (n ∷ ns))) 0 (λ e. omega (arith, commas_pos n ns))))

-- what gauge k adds
pub text_next : (m k : ℕ) → text_below m (k + 1) ≡ text_below m k ++ more m k (length (text_below m k))
unfolding gauges_below
text_next m k = ap (text_below m) (add-one k) ∙ go (set_of m k)
  where
    ns : List ℕ
    ns = gauges_below m k

    go : (b : Bool) → commas (ns ++ by_test b (k ∷ []) []) ≡ commas ns ++ by_test b (by_test (eqb (length (commas ns)) 0) (decimal k) (44 ∷ decimal k)) []
    go true = commas_more ns k
    go false = ap commas (append-nil ns) ∙ sym (append-nil (commas ns))

-- ---- how long it is

pub more_few : (m k n : ℕ) → k < 64 → length (more m k n) ≤ 3
more_few m k n h = go (set_of m k) (eqb n 0)
  where
    go : (a b : Bool) → length (by_test a (by_test b (decimal k) (44 ∷ decimal k)) []) ≤ 3
    go false b = omega arith
    go true true = omega (arith, length_most 1 k (omega arith))
    go true false = omega (arith, length_most 1 k (omega arith))

pub length_next : (m k : ℕ) → length (text_below m (k + 1)) ≡ length (text_below m k) + length (more m k (length (text_below m k)))
length_next m k = ap length (text_next m k) ∙ length-append (text_below m k) (more m k (length (text_below m k)))

-- three bytes a gauge at most
pub text_few : (m k : ℕ) → k ≤ 64 → length (text_below m k) ≤ 3 * k
unfolding gauges_below commas
text_few m zero h = omega arith
text_few m (suc k) h =
    omega (arith, text_few m k (omega arith), more_few m k (length (text_below m k)) (omega arith), length_next m k, ap (λ (n : ℕ). length (text_below m n)) (add-one k))

pub gauges_few : (m : ℕ) → length (gauges_text m) ≤ 192
unfolding gauges_text
gauges_few m = text_few m 64 (le_refl 64)

-- the text only grows
pub text_grows : (m j k : ℕ) → length (text_below m k) ≤ length (text_below m (j + k))
text_grows m zero k = let e : 0 + k ≡ k = omega arith in omega (arith, ap (λ (n : ℕ). length (text_below m n)) e)
text_grows m (suc j) k =
    let e : suc j + k ≡ j + k + 1 = omega arith in
    omega (arith, text_grows m j k, length_next m (j + k), ap (λ (n : ℕ). length (text_below m n)) e)

pub text_within : (m k : ℕ) → k ≤ 64 → length (text_below m k) ≤ length (gauges_text m)
unfolding gauges_text
text_within m k h = let e : 64 - k + k ≡ 64 = omega arith in subst (λ (n : ℕ). length (text_below m k) ≤ length (text_below m n)) e (text_grows m (64 - k) k)

-- ---- gauge k is put behind those below it

module _ (m k : ℕ) {x y : Writer} (w : Adds (text_below m k) x y) where
  sized : y.at - x.at ≡ length (text_below m k)
  sized = omega (arith, w.upto)

  pub gauge_room : k < 64 → x.at + length (gauges_text m) ≤ length x.out.now → y.at + length (more m k (y.at - x.at)) ≤ length y.out.now
  gauge_room h room =
      omega (
        arith,
        w.upto,
        w.placed.size,
        ap (λ (n : ℕ). length (more m k n)) sized,
        length_next m k,
        text_within m (k + 1) (omega arith),
      )

  pub gauge_next : {z : Writer} → Adds (more m k (y.at - x.at)) y z → Adds (text_below m (k + 1)) x z
  gauge_next v = adds_as (adds_then w v) (text_next m k ∙ ap (λ (n : ℕ). text_below m k ++ more m k n) (sym sized))

-- Spans of tables: that one four of a table covers a span is told by a flag, and gives a lawful and finite family, whatever the numbers are. Assumes nothing.
use mathlib.Core.Bool.{Bool, ◌&&◌}
use mathlib.Core.List.Memᴰ.{head as first}
use mathlib.Core.List.Memᴰ.{tail as later}
use mathlib.Core.List.{List, [], ◌∷◌, Memᴰ as In}
use mathlib.Core.Logic.{dite}
use mathlib.Core.Path.{◌≡◌, refl, sym}
use Prim.Native.Nat.{ℕ, zero, suc, ◌≤◌, max}
use native.Mathlib.Nat.{le_trans}
use native.Mathlib.Decide.{ℕ_discrete}
use native.Mathlib.Omega.{arith}
use lib.Dec.{leb}
use Rattle.gauges.specs.Flags.{Tells}
use Rattle.gauges.proofs.Flags.{tells_dec, tells_as, tells_and, tells_le}
use Rattle.links.specs.Links.{count, begins, ends, one, other, Of, in_order, turned, Covers, Covered}
use Rattle.links.specs.Faults.{is_of}
use Rattle.links.proofs.Pairs.{tells_of, covered_narrow}
use Rattle.cliques.proofs.Lawful.{Lawful, Finite}
use Rattle.cliques.proofs.Tests.{some, tells_some}
use Rattle.cliques.proofs.Sorting.{numbers, numbers_in, in_numbers, each, each_in}

-- ---- covered, as a flag that computes

-- whether link i of t is one of u and v and covers [x, y]
abbrev covers_flag : List ℕ → ℕ → ℕ → ℕ → ℕ → ℕ → Bool
covers_flag t u v x y i = let hours = leb (begins t i) x && leb y (ends t i) in is_of t i u v && hours

-- whether one of the links does
abbrev pub covered_flag : List ℕ → ℕ → ℕ → ℕ → ℕ → Bool
covered_flag t u v x y = let r = some (covers_flag t u v x y) (numbers (count t)) in leb x y && r

-- it tells
pub tells_covered : (t : List ℕ) (u v x y : ℕ) → Tells (covered_flag t u v x y) (Covered t u v x y)
tells_covered t u v x y =
    tells_as
    (λ w.
    let i = w.1.0 in
    let c = w.1.2 in
    record { link = i; covers = record { there = in_numbers (count t) w.1.1; pair = c.0; span = w.0; from = c.1.0; upto = c.1.1 } })
    (λ j. let c = j.covers in (c.span, (j.link, numbers_in (count t) c.there, (c.pair, (c.from, c.upto)))))
    (tells_and (tells_le x y) (tells_some (λ i. tells_and (tells_of t i u v) (tells_and (tells_le (begins t i) x) (tells_le y (ends t i)))) (numbers (count t))))

-- ---- the gauges, begins and ends of the links

-- what f says of each link
abbrev of_links : List ℕ → (ℕ → List ℕ) → List ℕ
of_links t f = each f (numbers (count t))

abbrev gauges_of : List ℕ → List ℕ
gauges_of t = of_links t (λ (i : ℕ). one t i ∷ other t i ∷ [])

abbrev begins_of : List ℕ → List ℕ
begins_of t = of_links t (λ (i : ℕ). begins t i ∷ [])

abbrev ends_of : List ℕ → List ℕ
ends_of t = of_links t (λ (i : ℕ). ends t i ∷ [])

-- the largest of some numbers
abbrev largest : List ℕ → ℕ
largest [] = 0
largest (n ∷ l) = max n (largest l)

largest_le : {n : ℕ} {l : List ℕ} → In n l → n ≤ largest l
largest_le (first e) = omega (arith, e)
largest_le (later i) = omega (arith, largest_le i)

module _ {t : List ℕ} {u v x y i : ℕ} (c : Covers t u v x y i) where
  -- the link of a joined span that reaches no further back begins with it
  pub first_hour : ((z : ℕ) → suc z ≡ x → Covered t u v z y → ⊥) → begins t i ≡ x
  first_hour f = dite (ℕ_discrete (begins t i) x) (λ e. e) (λ n. absurd (go x refl n))
    where
      go : (w : ℕ) → w ≡ x → (begins t i ≡ x → ⊥) → ⊥
      go zero e n = omega (arith, c.from)
      go (suc z) e n = f z e (record { link = i; covers = record { there = c.there; pair = c.pair; span = omega (arith, c.span); from = omega (arith, c.from); upto = c.upto } })

  -- the link of one that reaches no further on ends with it
  pub last_hour : (Covered t u v x (suc y) → ⊥) → ends t i ≡ y
  last_hour f = dite (ℕ_discrete (ends t i) y) (λ e. e)
      (λ n. absurd (f (record { link = i; covers = record { there = c.there; pair = c.pair; span = omega (arith, c.span); from = c.from; upto = omega (arith, c.upto) } })))

module _ {t : List ℕ} {u v x y : ℕ} (j : Covered t u v x y) where
  -- what f says of its link is said of the links
  said : (f : ℕ → List ℕ) {n : ℕ} → In n (f j.link) → In n (of_links t f)
  said f i = each_in f (numbers_in (count t) j.covers.there) i

  -- a covered pair is of two gauges of spans, ..
  pub covered_gauges : In u (gauges_of t) × In v (gauges_of t)
  covered_gauges = go j.covers.pair
    where
      two : ℕ → List ℕ
      two i = one t i ∷ other t i ∷ []

      go : Of t j.link u v → In u (gauges_of t) × In v (gauges_of t)
      go (in_order p q) = (said two (first (sym p)), said two (later (first (sym q))))
      go (turned p q) = (said two (later (first (sym q))), said two (first (sym p)))

  -- from a begin of a link, if it reaches no further back, ..
  pub covered_begin : ((z : ℕ) → suc z ≡ x → Covered t u v z y → ⊥) → In x (begins_of t)
  covered_begin f = said (λ (i : ℕ). begins t i ∷ []) (first (sym (first_hour j.covers f)))

  -- to an end of a link, if it reaches no further on, ..
  pub covered_end : (Covered t u v x (suc y) → ⊥) → In y (ends_of t)
  covered_end f = said (λ (i : ℕ). ends t i ∷ []) (first (sym (last_hour j.covers f)))

  -- and never past the last end
  pub covered_last : y ≤ largest (ends_of t)
  covered_last = le_trans j.covers.upto (largest_le (said (λ (i : ℕ). ends t i ∷ []) (first refl)))

-- ---- the family

-- the family of a table of spans is lawful, whatever the numbers
unfoldable pub covered_lawful : (t : List ℕ) → Lawful (Covered t)
unfolding tells_dec
covered_lawful t =
    record { decided = λ u v x y. tells_dec (tells_covered t u v x y); narrows = covered_narrow; last = largest (ends_of t); bounded = covered_last }

-- and finite
unfoldable pub covered_finite : (t : List ℕ) → Finite (Covered t)
covered_finite t =
    record {
      gauges = gauges_of t;
      begins = begins_of t;
      ends = ends_of t;
      one_known = λ j. (covered_gauges j).0;
      other_known = λ j. (covered_gauges j).1;
      begin_known = covered_begin;
      end_known = covered_end;
    }

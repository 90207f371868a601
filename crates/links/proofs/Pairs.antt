-- The laws of links and pairs: a link is of a pair in either order; two links of a pair clash if the later begin is no later than the sooner end;
-- "joined throughout" is decided, narrows to a smaller span and is symmetric in the gauges. Assumes nothing.
use mathlib.Core.Bool.{false}
use mathlib.Core.Logic.{◌⊎◌, inl, inr, ⊎_elim}
use mathlib.Core.Path.{◌≡◌, sym, ◌∙◌}
use mathlib.Core.List.{List}
use Prim.Native.Nat.{ℕ, ◌≤◌, min, max}
use native.Mathlib.Nat.{le_trans}
use native.Mathlib.Omega.{arith}
use lib.Dec.{eqb, leb}
use Rattle.gauges.specs.Flags.{Tells}
use Rattle.gauges.proofs.Flags.{tells_no, tells_eq, tells_le, tells_and, tells_or, tells_as, tells_dec}
use Rattle.gauges.proofs.Bounded.{Some, some_dec}
use Rattle.links.specs.Links.{count, begins, ends, one, other, Of, in_order, turned, Clash, Covers, Covered}
use Rattle.links.specs.Faults.{is_of, clash}

-- ---- the pair of a link

-- the two gauges have no order
pub of_sym : {t : List ℕ} {i u v : ℕ} → Of t i u v → Of t i v u
of_sym (in_order p q) = turned p q
of_sym (turned p q) = in_order p q

pub of_as : {t : List ℕ} {i u v u' v' : ℕ} → u ≡ u' → v ≡ v' → Of t i u v → Of t i u' v'
of_as d e (in_order p q) = in_order (p ∙ d) (q ∙ e)
of_as d e (turned p q) = turned (p ∙ e) (q ∙ d)

-- two links of one pair are of each other's
pub of_both : {t : List ℕ} {i j u v : ℕ} → Of t i u v → Of t j u v → Of t i (one t j) (other t j)
of_both (in_order p q) (in_order d e) = in_order (p ∙ sym d) (q ∙ sym e)
of_both (in_order p q) (turned d e) = turned (p ∙ sym e) (q ∙ sym d)
of_both (turned p q) (in_order d e) = turned (p ∙ sym e) (q ∙ sym d)
of_both (turned p q) (turned d e) = in_order (p ∙ sym d) (q ∙ sym e)

-- the test of the definitions tells
pub tells_of : (t : List ℕ) (i u v : ℕ) → Tells (is_of t i u v) (Of t i u v)
tells_of t i u v = tells_as
    (⊎_elim (λ w. in_order w.0 w.1) (λ w. turned w.0 w.1))
    from
    (tells_or (tells_and (tells_eq (one t i) u) (tells_eq (other t i) v)) (tells_and (tells_eq (one t i) v) (tells_eq (other t i) u)))
  where
    from : Of t i u v → ((one t i ≡ u) × (other t i ≡ v)) ⊎ ((one t i ≡ v) × (other t i ≡ u))
    from (in_order p q) = inl (p, q)
    from (turned p q) = inr (p, q)

-- the test of the code tells: a and b are the gauges of link i
module _ (t : List ℕ) (i u v : ℕ) {a b : ℕ} (is_one : a ≡ one t i) (is_other : b ≡ other t i) where
  pub of_first : a ≡ u → Tells (eqb b v) (Of t i u v)
  of_first e = tells_as (λ f. in_order (sym is_one ∙ e) (sym is_other ∙ f)) from (tells_eq b v)
    where
      from : Of t i u v → b ≡ v
      from (in_order p q) = is_other ∙ q
      from (turned p q) = is_other ∙ q ∙ sym e ∙ is_one ∙ p

  pub of_second : (a ≡ u → ⊥) → a ≡ v → Tells (eqb b u) (Of t i u v)
  of_second f e = tells_as (λ g. turned (sym is_one ∙ e) (sym is_other ∙ g)) from (tells_eq b u)
    where
      from : Of t i u v → b ≡ u
      from (in_order p q) = absurd (f (is_one ∙ p))
      from (turned p q) = is_other ∙ q

  pub of_neither : (a ≡ u → ⊥) → (a ≡ v → ⊥) → Tells false (Of t i u v)
  of_neither f g = tells_no from
    where
      from : Of t i u v → ⊥
      from (in_order p q) = f (is_one ∙ p)
      from (turned p q) = g (is_one ∙ p)

-- ---- links that share an hour

-- the test of the code tells: a and b are the gauges of link j, f is the later begin and e the sooner end
module _ (t : List ℕ) (i j : ℕ) {a b : ℕ} (is_one : a ≡ one t j) (is_other : b ≡ other t j) where
  pub clash_hours : {f e : ℕ} → f ≡ max (begins t i) (begins t j) → e ≡ min (ends t i) (ends t j) → Of t i a b → Tells (leb f e) (Clash t i j)
  clash_hours {f} {e} p q o = tells_as
      (λ h. record {
        pair = of_as is_one is_other o;
        hour = f;
        in_one = record { from = omega arith; upto = omega arith };
        in_other = record { from = omega arith; upto = omega arith };
      })
      (λ c. omega (arith, c.in_one.from, c.in_one.upto, c.in_other.from, c.in_other.upto))
      (tells_le f e)

  pub clash_no_pair : (Of t i a b → ⊥) → Tells false (Clash t i j)
  clash_no_pair f = tells_no (λ c. f (of_as (sym is_one) (sym is_other) c.pair))

-- the test of the definitions tells
pub tells_clash : (t : List ℕ) (i j : ℕ) → Tells (clash t i j) (Clash t i j)
tells_clash t i j = tells_as
    (λ w. record {
      pair = w.0;
      hour = max (begins t i) (begins t j);
      in_one = record { from = omega arith; upto = omega (arith, w.1) };
      in_other = record { from = omega arith; upto = omega (arith, w.1) };
    })
    (λ c. (c.pair, omega (arith, c.in_one.from, c.in_one.upto, c.in_other.from, c.in_other.upto)))
    (tells_and (tells_of t i (one t j) (other t j)) (tells_le (max (begins t i) (begins t j)) (min (ends t i) (ends t j))))

-- which of two links is named first says nothing
pub clash_sym : {t : List ℕ} {i j : ℕ} → Clash t i j → Clash t j i
clash_sym {t} {i} {j} c = record { pair = flip c.pair; hour = c.hour; in_one = c.in_other; in_other = c.in_one }
  where
    flip : Of t i (one t j) (other t j) → Of t j (one t i) (other t i)
    flip (in_order p q) = in_order (sym p) (sym q)
    flip (turned p q) = turned (sym q) (sym p)

-- ---- spans that a link covers, and joined pairs

module _ {t : List ℕ} {u v x y : ℕ} where
  pub covers_sym : {i : ℕ} → Covers t u v x y i → Covers t v u x y i
  covers_sym c = record { there = c.there; pair = of_sym c.pair; span = c.span; from = c.from; upto = c.upto }

  -- which of the two gauges is named first says nothing
  pub covered_sym : Covered t u v x y → Covered t v u x y
  covered_sym j = record { link = j.link; covers = covers_sym j.covers }

  -- a pair that is joined throughout a span is so throughout every smaller span
  pub covered_narrow : {x' y' : ℕ} → x ≤ x' → x' ≤ y' → y' ≤ y → Covered t u v x y → Covered t u v x' y'
  covered_narrow l m r j =
      record {
        link = j.link;
        covers = record {
          there = j.covers.there;
          pair = j.covers.pair;
          span = m;
          from = le_trans j.covers.from l;
          upto = le_trans r j.covers.upto;
        };
      }

-- two links that cover a span of one pair share its hours
pub covers_clash : {t : List ℕ} {u v x y x' y' i j : ℕ} → Covers t u v x y i → Covers t u v x' y' j → (h : ℕ) → x ≤ h → h ≤ y → x' ≤ h → h ≤ y' → Clash t i j
covers_clash c d h l m n o =
    record {
      pair = of_both c.pair d.pair;
      hour = h;
      in_one = record { from = le_trans c.from l; upto = le_trans m c.upto };
      in_other = record { from = le_trans d.from n; upto = le_trans o d.upto };
    }

pub covers_dec : (t : List ℕ) (u v x y i : ℕ) → Dec (Covers t u v x y i)
covers_dec t u v x y i = tells_dec (tells_as
    (λ w. record { there = w.0; pair = w.1.0; span = w.1.1.0; from = w.1.1.1.0; upto = w.1.1.1.1 })
    (λ c. (c.there, (c.pair, (c.span, (c.from, c.upto)))))
    (tells_and (tells_le _ _) (tells_and (tells_of t i u v) (tells_and (tells_le x y) (tells_and (tells_le _ x) (tells_le y _))))))

-- whether a pair is joined throughout a span is decided
pub covered_dec : (t : List ℕ) (u v x y : ℕ) → Dec (Covered t u v x y)
covered_dec t u v x y = found (some_dec (covers_dec t u v x y) (count t))
  where
    found : Dec (Some (Covers t u v x y) (count t)) → Dec (Covered t u v x y)
    found (yes s) = yes (record { link = s.number; covers = s.holds })
    found (no f) = no (λ j. f (record { number = j.link; below = j.covers.there; holds = j.covers }))

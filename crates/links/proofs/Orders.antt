-- The links in another order, and the two gauges of a link exchanged, change nothing: neither whether the table is accepted nor which pairs are joined when.
-- Further links leave the pairs joined that were. Assumes nothing.
use mathlib.Core.Path.{◌≡◌, sym, ap, subst, ◌∙◌}
use mathlib.Core.List.{List}
use Prim.Native.Nat.{ℕ, ◌/◌, ◌%◌, ◌<◌}
use native.Mathlib.Nat.{le_trans, le_of_eq, lt_of_le_of_lt}
use Rattle.links.specs.Links.{count, begins, ends, one, other, Of, in_order, turned, During, Clash, Covered, Accepted, Rearranged, Extends}

-- link j of a table has the two gauges of link i of another
pub record Alike (t : List ℕ) (i : ℕ) (t' : List ℕ) (j : ℕ) : Type 0 where
  pub pair : Of t' j (one t i) (other t i)

-- it is then of every pair that link i is of
alike_of : {t t' : List ℕ} {i j u v : ℕ} → Alike t i t' j → Of t i u v → Of t' j u v
alike_of {t} {t'} {i} {j} {u} {v} a o = go a.pair o
  where
    go : Of t' j (one t i) (other t i) → Of t i u v → Of t' j u v
    go (in_order p q) (in_order d e) = in_order (p ∙ d) (q ∙ e)
    go (in_order p q) (turned d e) = turned (p ∙ d) (q ∙ e)
    go (turned p q) (in_order d e) = turned (p ∙ e) (q ∙ d)
    go (turned p q) (turned d e) = in_order (p ∙ e) (q ∙ d)

alike_sym : {t t' : List ℕ} {i j : ℕ} → Alike t i t' j → Alike t' j t i
alike_sym {t} {t'} {i} {j} a = record { pair = go a.pair }
  where
    go : Of t' j (one t i) (other t i) → Of t i (one t' j) (other t' j)
    go (in_order p q) = in_order (sym p) (sym q)
    go (turned p q) = turned (sym q) (sym p)

alike_trans : {t t' t'' : List ℕ} {i j k : ℕ} → Alike t i t' j → Alike t' j t'' k → Alike t i t'' k
alike_trans a b = record { pair = alike_of b a.pair }

-- ---- rearranging goes both ways, and on

-- a link and the link that it became have the same two gauges
alike : {t t' : List ℕ} (R : Rearranged t t') {i : ℕ} → i < count t → Alike t i t' (R.to i)
alike R {i} h = record { pair = R.same_pair i h }

pub rearranged_sym : {t t' : List ℕ} → Rearranged t t' → Rearranged t' t
rearranged_sym {t} {t'} R =
    record {
      same_length = sym R.same_length;
      to = R.back;
      back = R.to;
      to_there = R.back_there;
      back_there = R.to_there;
      to_back = R.back_to;
      back_to = R.to_back;
      same_begin = λ j h. sym (R.same_begin (R.back j) (R.back_there j h)) ∙ ap (begins t') (R.back_to j h);
      same_end = λ j h. sym (R.same_end (R.back j) (R.back_there j h)) ∙ ap (ends t') (R.back_to j h);
      same_pair = λ j h. (alike_sym (subst (Alike t (R.back j) t') (R.back_to j h) (record { pair = R.same_pair (R.back j) (R.back_there j h) }))).pair;
    }

pub rearranged_trans : {t t' t'' : List ℕ} → Rearranged t t' → Rearranged t' t'' → Rearranged t t''
rearranged_trans {t} {t'} {t''} R S =
    record {
      same_length = R.same_length ∙ S.same_length;
      to = λ i. S.to (R.to i);
      back = λ j. R.back (S.back j);
      to_there = λ i h. S.to_there (R.to i) (R.to_there i h);
      back_there = λ j h. R.back_there (S.back j) (S.back_there j h);
      to_back = λ i h. ap R.back (S.to_back (R.to i) (R.to_there i h)) ∙ R.to_back i h;
      back_to = λ j h. ap S.to (R.back_to (S.back j) (S.back_there j h)) ∙ S.back_to j h;
      same_begin = λ i h. S.same_begin (R.to i) (R.to_there i h) ∙ R.same_begin i h;
      same_end = λ i h. S.same_end (R.to i) (R.to_there i h) ∙ R.same_end i h;
      same_pair = λ i h. alike_of (alike S (R.to_there i h)) (R.same_pair i h);
    }

-- ---- further links

-- a table and one with further links: the pairs that are joined stay so, throughout the same spans
pub covered_extends : {t t' : List ℕ} {u v x y : ℕ} → Extends t t' → Covered t u v x y → Covered t' u v x y
covered_extends E j =
    let i = j.link in
    let h = j.covers.there in
    record {
      link = E.to i;
      covers = record {
        there = E.to_there i h;
        pair = alike_of (record { pair = E.same_pair i h }) j.covers.pair;
        span = j.covers.span;
        from = le_trans (le_of_eq (E.same_begin i h)) j.covers.from;
        upto = le_trans j.covers.upto (le_of_eq (sym (E.same_end i h)));
      };
    }

-- ---- what stays

module _ {t t' : List ℕ} (R : Rearranged t t') where
  -- no link is lost
  pub rearranged_extends : Extends t t'
  rearranged_extends = record { to = R.to; to_there = R.to_there; same_begin = R.same_begin; same_end = R.same_end; same_pair = R.same_pair }

  -- the same pairs are joined throughout the same spans
  pub covered_rearranged : {u v x y : ℕ} → Covered t u v x y → Covered t' u v x y
  covered_rearranged j = covered_extends rearranged_extends j

  clash_rearranged : {i j : ℕ} → i < count t → j < count t → Clash t i j → Clash t' (R.to i) (R.to j)
  clash_rearranged {i} {j} h k c =
      record {
        pair = (alike_trans (alike_sym (alike R k)) (alike_trans (record { pair = c.pair }) (alike R h))).pair;
        hour = c.hour;
        in_one = moved h c.in_one;
        in_other = moved k c.in_other;
      }
    where
      moved : {n : ℕ} → n < count t → During t n c.hour → During t' (R.to n) c.hour
      moved {n} l d = record { from = le_trans (le_of_eq (R.same_begin n l)) d.from; upto = le_trans d.upto (le_of_eq (sym (R.same_end n l))) }

-- a table is accepted in whatever order its links, and the two gauges of each, are lent
pub accepted_rearranged : {t t' : List ℕ} {g : ℕ} → Rearranged t t' → Accepted t g → Accepted t' g
accepted_rearranged {t} {t'} {g} R A =
    record {
      whole = ap (λ (n : ℕ). n % 4) (sym R.same_length) ∙ A.whole;
      few = le_trans (le_of_eq (ap (λ (n : ℕ). n / 4) (sym R.same_length))) A.few;
      some_gauge = A.some_gauge;
      few_gauges = A.few_gauges;
      known_one = λ j h. (known h).0;
      known_other = λ j h. (known h).1;
      two = λ j h e. A.two (S.to j) (S.to_there j h) (same (S.to j) j (S.same_pair j h) e);
      forward = λ j h. le_trans (le_of_eq (sym (S.same_begin j h))) (le_trans (A.forward (S.to j) (S.to_there j h)) (le_of_eq (S.same_end j h)));
      in_time = λ j h. le_trans (le_of_eq (sym (S.same_end j h))) (A.in_time (S.to j) (S.to_there j h));
      apart = λ i j h k d c. A.apart (S.to i) (S.to j) (S.to_there i h) (S.to_there j k)
          (λ e. d (sym (S.to_back i h) ∙ ap S.back e ∙ S.to_back j k)) (clash_rearranged S h k c);
    }
  where
    S : Rearranged t' t
    S = rearranged_sym R

    below : {a b : ℕ} → a ≡ b → a < g → b < g
    below e h = lt_of_le_of_lt (le_of_eq (sym e)) h

    known : {j : ℕ} → j < count t' → (one t' j < g) × (other t' j < g)
    known {j} h = go (S.same_pair j h)
      where
        go : Of t (S.to j) (one t' j) (other t' j) → (one t' j < g) × (other t' j < g)
        go (in_order p q) = (below p (A.known_one _ (S.to_there j h)), below q (A.known_other _ (S.to_there j h)))
        go (turned p q) = (below q (A.known_other _ (S.to_there j h)), below p (A.known_one _ (S.to_there j h)))

    same : (i j : ℕ) → Of t i (one t' j) (other t' j) → one t' j ≡ other t' j → one t i ≡ other t i
    same i j (in_order p q) e = p ∙ e ∙ sym q
    same i j (turned p q) e = p ∙ sym e ∙ sym q

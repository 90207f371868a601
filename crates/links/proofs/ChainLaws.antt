-- The laws of chains: links of one pair have one place, walking a chain back passes every earlier link that can clash, and entering a link keeps the chains.
-- Assumes nothing.
use mathlib.Core.Logic.{dite}
use mathlib.Core.Path.{◌≡◌, refl, sym, ap, subst, ◌∙◌}
use mathlib.Core.List.{List}
use Prim.Native.Nat.{ℕ, zero, suc, ◌+◌, ◌-◌, ◌≤◌, ◌<◌}
use native.Mathlib.Nat.{not-suc-le-zero}
use native.Mathlib.Decide.{ℕ_discrete, dec_lt}
use native.Mathlib.Omega.{arith}
use Rattle.std.specs.Prelude.{Some, None}
use lib.ListN.{get_or, set, length-set, replicate, length-replicate}
use lib.Seq.{get_or-set_same, get_or-set_other}
use Rattle.links.specs.Links.{count, one, other, Of, in_order, turned, Clash}
use Rattle.links.specs.declared.chains.Chains.{Chains}
use Rattle.links.specs.Faults.{link_fault, no_fault}
use Rattle.links.specs.Chains.{pair_of, Placed, Latest, Chained, Next, AtLink, EarlierClash}
use Rattle.links.proofs.FaultLaws.{link_known}

-- ---- the place of a pair

-- links that clash have one place
pub same_place : {t : List ℕ} {i j : ℕ} → Clash t i j → pair_of t i ≡ pair_of t j
same_place {t} {i} {j} c = go c.pair
  where
    go : Of t i (one t j) (other t j) → pair_of t i ≡ pair_of t j
    go (in_order p q) = omega arith
    go (turned p q) = omega arith

-- links with one place are of one pair
pub same_pair : {t : List ℕ} {i j : ℕ} → Placed t i → Placed t j → pair_of t i ≡ pair_of t j → Of t i (one t j) (other t j)
same_pair {t} {i} {j} a b e = dite (ℕ_discrete (one t i) (one t j)) (λ d. in_order d (omega arith)) (λ d. turned (omega arith) (omega arith))

-- every pair has a place
pub place_below : {t : List ℕ} {i : ℕ} → Placed t i → pair_of t i < 4096
place_below a = omega arith

-- ---- walking a chain back

-- the walk for link i has come back to number r, one up: no link from there up to i clashes with link i
pub record Walked (t : List ℕ) (i r : ℕ) : Type 0 where
  pub bound : r ≤ i
  pub pair : 0 < r → pair_of t (r - 1) ≡ pair_of t i
  pub none : (m : ℕ) → r ≤ m → m < i → Clash t m i → ⊥

module _ {t : List ℕ} {chains : Chains} {i : ℕ} (N : Next t chains i) where
  -- the walk begins at the latest link of the pair
  pub walked_start : {p : ℕ} → p ≡ pair_of t i → Walked t i (get_or chains.latest p 0)
  walked_start {p} e =
      let l = N.chained.newest p (omega (arith, place_below N.placed)) in
      record { bound = l.bound; pair = λ h. l.pair h ∙ e; none = λ m h k c. l.none m h k (same_place c ∙ sym e) }

  module _ {r : ℕ} (W : Walked t i r) (more : 0 < r) where
    -- the next link of the walk is a link
    pub walked_there : r - 1 < count t
    walked_there = omega (arith, W.bound, N.there)

    -- it is of the pair of link i
    pub walked_pair : Of t (r - 1) (one t i) (other t i)
    walked_pair = same_pair (N.chained.placed (r - 1) (omega (arith, W.bound))) N.placed (W.pair more)

    -- it is the answer if it clashes
    pub walked_clash : Clash t (r - 1) i → EarlierClash t i (Some (r - 1))
    walked_clash c = (omega (arith, W.bound), c)

    -- otherwise the walk goes on to the latest link before it
    pub walked_more : (Clash t (r - 1) i → ⊥) → Walked t i (get_or chains.previous (r - 1) 0)
    walked_more f =
        let l = N.chained.older (r - 1) (omega (arith, W.bound)) in
        record {
          bound = omega (arith, l.bound, W.bound);
          pair = λ h. l.pair h ∙ W.pair more;
          none = λ m h k c. dite (ℕ_discrete m (r - 1))
              (λ e. f (subst (λ (n : ℕ). Clash t n i) e c))
              (λ d. dite (dec_lt m r)
              (λ u. l.none m h (omega arith) (same_place c ∙ sym (W.pair more)))
              (λ u. W.none m (omega arith) k c));
        }

    -- what is left gets less
    pub walked_less : get_or chains.previous (r - 1) 0 < r
    walked_less = omega (arith, (N.chained.older (r - 1) (omega (arith, W.bound))).bound)

-- at the end of the chain no earlier link clashes
pub walked_end : {t : List ℕ} {i r : ℕ} → Walked t i r → r ≤ 0 → EarlierClash t i None
walked_end W h = λ j k. W.none j (omega arith) k

-- ---- entering a link

-- a list of zeros has 0 at every place
zeros : (n i : ℕ) → get_or {A = ℕ} (replicate n 0) i 0 ≡ 0
zeros zero i = refl
zeros (suc n) zero = refl
zeros (suc n) (suc i) = zeros n i

-- at first there are no chains
pub chained_none : (t : List ℕ) → count t ≤ 2048 → Chained t (record { latest = replicate 4096 0; previous = replicate 2048 0 }) 0
chained_none t h =
    record {
      few = h;
      pairs = length-replicate {A = ℕ} 4096 0;
      places = length-replicate {A = ℕ} 2048 0;
      placed = λ m l. absurd (not-suc-le-zero l);
      newest = λ p l. subst (Latest t p 0) (sym (zeros 4096 p)) none;
      older = λ m l. absurd (not-suc-le-zero l);
    }
  where
    none : {p : ℕ} → Latest t p 0 0
    none = record { bound = omega arith; pair = λ h. absurd (omega arith); none = λ m l k. absurd (omega arith) }

-- of the links below i + 1, the latest of the pair of link i is link i
latest_new : (t : List ℕ) (p i : ℕ) → pair_of t i ≡ p → Latest t p (i + 1) (i + 1)
latest_new t p i e =
    let same : i + 1 - 1 ≡ i = omega arith in
    record { bound = omega arith; pair = λ h. ap (pair_of t) same ∙ e; none = λ m h k. absurd (omega arith) }

-- and of another pair it is the same as before
latest_old : {t : List ℕ} {p i r : ℕ} → (pair_of t i ≡ p → ⊥) → Latest t p i r → Latest t p (i + 1) r
latest_old {t} {p} {i} f l =
    record {
      bound = omega (arith, l.bound);
      pair = l.pair;
      none = λ m h k e. dite (ℕ_discrete m i) (λ d. f (ap (pair_of t) (sym d) ∙ e)) (λ d. l.none m h (omega arith) e);
    }

-- a link without a fault can be entered
pub passed_next : {t : List ℕ} {g : ℕ} {chains : Chains} {i : ℕ} → AtLink t g chains i → link_fault t g i ≡ no_fault → Next t chains i
passed_next {t} {g} {i = i} A e =
    let k = link_known t g i e in
    record {
      there = A.there;
      placed = record { one_below = omega (arith, k.0, A.few_gauges); other_below = omega (arith, k.1, A.few_gauges) };
      chained = A.chained;
    }

-- a link that is entered is the latest of its pair, and the one that was is before it
pub chained_more : {t : List ℕ} {chains : Chains} {i p : ℕ} → Next t chains i → p ≡ pair_of t i
    → Chained t (record { latest = set chains.latest p (i + 1); previous = set chains.previous i (get_or chains.latest p 0) }) (i + 1)
chained_more {t} {chains} {i} {p} N e =
    record {
      few = C.few;
      pairs = length-set chains.latest p (i + 1) ∙ C.pairs;
      places = length-set chains.previous i (get_or chains.latest p 0) ∙ C.places;
      placed = λ m h. dite (ℕ_discrete m i) (λ d. subst (Placed t) (sym d) N.placed) (λ d. C.placed m (omega arith));
      newest = λ q h. dite (ℕ_discrete q p)
          (λ d. subst (Latest t q (i + 1)) (sym (ap (λ (n : ℕ). get_or (set chains.latest p (i + 1)) n 0) d ∙ new)) (latest_new t q i (sym (d ∙ e))))
          (λ d. subst (Latest t q (i + 1)) (sym (get_or-set_other chains.latest p q (i + 1) 0 d)) (latest_old (λ f. d (sym (e ∙ f))) (C.newest q h)));
      older = λ m h. dite (ℕ_discrete m i)
          (λ d. subst (λ (n : ℕ). Latest t (pair_of t n) n (get_or (set chains.previous i (get_or chains.latest p 0)) n 0)) (sym d) before)
          (λ d. subst (Latest t (pair_of t m) m) (sym (get_or-set_other chains.previous i m (get_or chains.latest p 0) 0 d)) (C.older m (omega arith)));
    }
  where
    C : Chained t chains i
    C = N.chained

    below : p < 4096
    below = omega (arith, place_below N.placed)

    new : get_or (set chains.latest p (i + 1)) p 0 ≡ i + 1
    new = get_or-set_same chains.latest p (i + 1) 0 (omega (arith, N.chained.pairs))

    before : Latest t (pair_of t i) i (get_or (set chains.previous i (get_or chains.latest p 0)) i 0)
    before =
        subst (Latest t (pair_of t i) i) (sym (get_or-set_same chains.previous i (get_or chains.latest p 0) 0 (omega (arith, N.there, N.chained.few, N.chained.places))))
        (subst (λ (q : ℕ). Latest t q i (get_or chains.latest p 0)) e (N.chained.newest p below))

-- The hours that pairs have in common, of one pair and of two lots of pairs; and the walks over the pairs of one gauge, and over those of a set, turn by turn. Assumes nothing.
use mathlib.Core.Logic.{◌⊎◌, inl, inr, ⊎_elim, dite}
use mathlib.Core.Path.{◌≡◌, refl, sym, ap, subst, ◌∙◌}
use mathlib.Core.List.{List}
use Prim.Native.Nat.{ℕ, ◌-◌, ◌^◌, ◌≤◌, ◌<◌, min, max}
use native.Mathlib.Decide.{ℕ_discrete, dec_lt}
use native.Mathlib.Nat.{le_refl}
use native.Mathlib.Omega.{arith}
use Rattle.gauges.specs.Sets.{Member, Within}
use Rattle.gauges.specs.Members.{Taken}
use Rattle.gauges.proofs.Taking.{passed_or_taken}
use Rattle.links.specs.Links.{begins, ends, Covers, Joined, Apart}
use Rattle.links.proofs.Pairs.{of_as, covers_clash}
use Rattle.links.proofs.JoinedLaws.{joined_narrow}
use Rattle.question.specs.Verdicts.{PairOf, FirstUnjoined}
use Rattle.question.specs.Walks.{Walkable, Just, Beside, Common}
use Rattle.question.proofs.Rests.{Rest, taken_in, lower_passed, higher_left, left_higher}

-- ---- hours in common

-- two links of one pair that cover a common hour are one, if the links of one pair share no hour
one_link : {t : List ℕ} {u v x y x' y' i j : ℕ} → Apart t → Covers t u v x y i → Covers t u v x' y' j → (h : ℕ) → x ≤ h → h ≤ y → x' ≤ h → h ≤ y' → i ≡ j
one_link {i = i} {j = j} A c d h l m n o = dite (ℕ_discrete i j) (λ e. e) (λ f. absurd (A i j c.there d.there f (covers_clash c d h l m n o)))

-- the pairs R are the pairs P and the pairs Q
pub record Union (P Q R : ℕ → ℕ → Type 0) : Type 0 where
  pub parts : (a b : ℕ) → R a b → P a b ⊎ Q a b
  pub left : (a b : ℕ) → P a b → R a b
  pub right : (a b : ℕ) → Q a b → R a b

module _ {t : List ℕ} {x y : ℕ} (W : Walkable t x y) where
  -- pairs that have hours in common are joined throughout
  pub common_joined : {P : ℕ → ℕ → Type 0} {from upto : ℕ} → Common t x y P from upto → (a b : ℕ) → P a b → Joined t a b x y
  common_joined C a b p = joined_narrow C.begun W.span C.lasts (C.joined a b p)

  -- no pair at all has every hour in common
  pub common_none : {P : ℕ → ℕ → Type 0} → y < 2 ^ 64 → ((a b : ℕ) → P a b → ⊥) → Common t x y P 0 (2 ^ 64 - 1)
  common_none h f =
      record {
        begun = omega arith;
        lasts = omega arith;
        joined = λ a b p. absurd (f a b p);
        no_sooner = λ z l all. omega arith;
        no_longer = λ z l s all. omega arith;
      }

  -- one pair has the hours of the link that covers the span
  pub common_link : {u v i from upto : ℕ} → Covers t u v x y i → from ≡ begins t i → upto ≡ ends t i → Common t x y (Just u v) from upto
  common_link {u} {v} {i} {from} {upto} c e f =
      record {
        begun = omega (arith, c.from);
        lasts = omega (arith, c.upto);
        joined = λ a b p. record {
          link = i;
          covers = record {
            there = c.there;
            pair = of_as (sym p.lower) (sym p.higher) c.pair;
            span = omega (arith, c.from, c.upto, W.span);
            from = omega arith;
            upto = omega arith;
          };
        };
        no_sooner = λ z l all.
            let j = all u v (record { lower = refl; higher = refl }) in
            let s = one_link W.apart c j.covers y W.span (le_refl y) j.covers.span (le_refl y) in
            omega (arith, ap (begins t) s, j.covers.from);
        no_longer = λ z l _ all.
            let j = all u v (record { lower = refl; higher = refl }) in
            let s = one_link W.apart c j.covers x (le_refl x) W.span (le_refl x) j.covers.span in
            omega (arith, ap (ends t) s, j.covers.upto);
      }

  -- of two lots of pairs: from the later of their begins to the sooner of their ends
  pub common_both : {P Q R : ℕ → ℕ → Type 0} {a b c d from upto : ℕ} → Union P Q R → Common t x y P a b → Common t x y Q c d → (from ≡ max a c) × (upto ≡ min b d)
      → Common t x y R from upto
  common_both {a = a} {b = b} U C D e =
      record {
        begun = omega (arith, e.0, C.begun, D.begun);
        lasts = omega (arith, e.1, C.lasts, D.lasts);
        joined = λ u v r. ⊎_elim
            (λ p. joined_narrow (omega (arith, e.0)) (omega (arith, e.0, e.1, C.begun, D.begun, C.lasts, D.lasts, W.span)) (omega (arith, e.1)) (C.joined u v p))
            (λ q. joined_narrow (omega (arith, e.0)) (omega (arith, e.0, e.1, C.begun, D.begun, C.lasts, D.lasts, W.span)) (omega (arith, e.1)) (D.joined u v q))
            (U.parts u v r);
        no_sooner = λ z l all. dite (dec_lt z a)
            (λ h. C.no_sooner z h (λ u v p. all u v (U.left u v p)))
            (λ h. D.no_sooner z (omega (arith, e.0)) (λ u v q. all u v (U.right u v q)));
        no_longer = λ z l s all. dite (dec_lt b z)
            (λ h. C.no_longer z h s (λ u v p. all u v (U.left u v p)))
            (λ h. D.no_longer z (omega (arith, e.1)) s (λ u v q. all u v (U.right u v q)));
      }

  -- the same pairs have the same hours
  pub common_as : {P Q : ℕ → ℕ → Type 0} {from upto : ℕ} → ((a b : ℕ) → P a b → Q a b) → ((a b : ℕ) → Q a b → P a b) → Common t x y P from upto → Common t x y Q from upto
  common_as to back C =
      record {
        begun = C.begun;
        lasts = C.lasts;
        joined = λ a b q. C.joined a b (back a b q);
        no_sooner = λ z l all. C.no_sooner z l (λ a b p. all a b (to a b p));
        no_longer = λ z l s all. C.no_longer z l s (λ a b p. all a b (to a b p));
      }

-- ---- the pairs of gauge u with the others, of which rest is left

pub record PassedBeside (u others rest a b : ℕ) : Type 0 where
  pub beside : Beside u others a b
  pub passed : Member b rest → ⊥

pub beside_start : (u others a b : ℕ) → PassedBeside u others others a b → ⊥
beside_start u others a b p = p.passed p.beside.higher

pub beside_end : {u others rest : ℕ} → ((k : ℕ) → Member k rest → ⊥) → (a b : ℕ) → Beside u others a b → PassedBeside u others rest a b
beside_end f a b p = record { beside = p; passed = f b }

module _ {others rest v rest' : ℕ} (R : Rest others rest) (T : Taken rest v rest') where
  pub beside_next : (u : ℕ) → Union (PassedBeside u others rest) (Just u v) (PassedBeside u others rest')
  beside_next u =
      record {
        parts = λ a b p. ⊎_elim
            (λ f. inl (record { beside = p.beside; passed = f }))
            (λ e. inr (record { lower = p.beside.lower; higher = e }))
            (passed_or_taken T b p.passed);
        left = λ a b p. record { beside = p.beside; passed = λ h. p.passed (T.still b h) };
        right = λ a b p. record {
          beside = record { lower = p.lower; higher = subst (λ (n : ℕ). Member n others) (sym p.higher) (taken_in R T) };
          passed = λ h. T.gone (subst (λ (n : ℕ). Member n rest') p.higher h);
        };
      }

  -- the first pair that isn't joined, if all the pairs that are passed are
  pub beside_lacks : {t : List ℕ} {x y u from upto p q : ℕ} → Walkable t x y → Common t x y (PassedBeside u others rest) from upto → FirstUnjoined t x y (Just u v) p q
      → FirstUnjoined t x y (Beside u others) p q
  beside_lacks {p = p} {q = q} W C L =
      record {
        pair = record { lower = L.pair.lower; higher = subst (λ (n : ℕ). Member n others) (sym L.pair.higher) (taken_in R T) };
        unjoined = L.unjoined;
        first = λ a b s before.
            let low : b < v = ⊎_elim (λ l. absurd (omega (arith, s.lower, L.pair.lower))) (λ w. omega (arith, w.1, L.pair.higher)) before in
            common_joined W C a b (record { beside = s; passed = lower_passed R T b low });
      }

-- ---- the pairs of a set, of whose lower gauges rest is left

pub record PassedPair (m rest a b : ℕ) : Type 0 where
  pub pair : PairOf m a b
  pub passed : Member a rest → ⊥

pub pairs_start : (m a b : ℕ) → PassedPair m m a b → ⊥
pairs_start m a b p = p.passed p.pair.lower

pub pairs_end : {m rest : ℕ} → ((k : ℕ) → Member k rest → ⊥) → (a b : ℕ) → PairOf m a b → PassedPair m rest a b
pairs_end f a b p = record { pair = p; passed = f a }

module _ {m rest u rest' : ℕ} (R : Rest m rest) (T : Taken rest u rest') where
  -- a pair of which u is the lower gauge
  beside_pair : {a b : ℕ} → Beside u rest' a b → PairOf m a b
  unfolding Within
  beside_pair {a} {b} p =
      record {
        lower = subst (λ (n : ℕ). Member n m) (sym p.lower) (taken_in R T);
        higher = R.within b (T.still b p.higher);
        less = omega (arith, p.lower, left_higher R T b p.higher);
      }

  pair_beside : {a b : ℕ} → PairOf m a b → a ≡ u → Beside u rest' a b
  pair_beside {a} {b} p e = record { lower = e; higher = higher_left R T b p.higher (omega (arith, p.less)) }

  pub pairs_next : Union (PassedPair m rest) (Beside u rest') (PassedPair m rest')
  pairs_next =
      record {
        parts = λ a b p. ⊎_elim (λ f. inl (record { pair = p.pair; passed = f })) (λ e. inr (pair_beside p.pair e)) (passed_or_taken T a p.passed);
        left = λ a b p. record { pair = p.pair; passed = λ h. p.passed (T.still a h) };
        right = λ a b p. record { pair = beside_pair p; passed = λ h. T.gone (subst (λ (n : ℕ). Member n rest') p.lower h) };
      }

  pub pairs_lack : {t : List ℕ} {x y from upto p q : ℕ} → Walkable t x y → Common t x y (PassedPair m rest) from upto → FirstUnjoined t x y (Beside u rest') p q
      → FirstUnjoined t x y (PairOf m) p q
  pairs_lack W C L =
      record {
        pair = beside_pair L.pair;
        unjoined = L.unjoined;
        first = λ a b s before. ⊎_elim
            (λ l. common_joined W C a b (record { pair = s; passed = lower_passed R T a (omega (arith, L.pair.lower)) }))
            (λ w. L.first a b (pair_beside s (w.0 ∙ L.pair.lower)) (inr w))
            before;
      }

-- The verdict on each way out of the code: from the first pair that isn't joined, or the hours that the pairs have in common and the lowest gauge that fits. Assumes nothing.
use mathlib.Core.Path.{subst}
use mathlib.Core.List.{List, [], ◌∷◌}
use Prim.Native.Nat.{ℕ, suc, ◌^◌, ◌≤◌, ◌<◌}
use native.Mathlib.Nat.{le_refl, le_trans}
use native.Mathlib.Omega.{arith}
use Rattle.gauges.specs.Sets.{Member}
use Rattle.gauges.proofs.Laws.{member_pow, or_left, or_right}
use Rattle.links.specs.Links.{Joined, Accepted}
use Rattle.links.proofs.JoinedLaws.{joined_sym, joined_narrow}
use Rattle.cliques.specs.Groups.{Row, Clique}
use Rattle.cliques.proofs.Rows.{with_gauge}
use Rattle.cliques.proofs.Cliques.{clique_pair, wider}
use Rattle.cliques.proofs.Local.{local_group}
use Rattle.cliques.proofs.Tables.{joined_lawful}
use Rattle.cliques.proofs.TableLinks.{clique_covered}
use Rattle.question.specs.Verdicts.{spanned, PairOf, FirstUnjoined, EarliestBegin, LatestEnd, Fits, LowestFit}
use Rattle.question.specs.Verdicts.{Holds, unjoined, earlier, later, further, a_group, FirstVerdict}
use Rattle.question.specs.Walks.{Walkable, Common}
use Rattle.question.proofs.Reaches.{common_joined}
use Rattle.question.proofs.Reasons.{Sound}

-- ---- cliques of the members

-- every pair of a clique is joined
pub clique_pairs : {t : List ℕ} {g m x y : ℕ} → Clique (Joined t) g (spanned m x y) → (u v : ℕ) → PairOf m u v → Joined t u v x y
clique_pairs K u v p = K.joined u v p.lower p.higher p.less

-- a joined pair's span, and so a clique's, ends by the last permitted hour
pub joined_in_time : {t : List ℕ} {g u v x y : ℕ} → Accepted t g → Joined t u v x y → y ≤ 2147483647
joined_in_time A j = le_trans j.covers.upto (A.in_time j.link j.covers.there)

pub clique_in_time : {t : List ℕ} {g g' : ℕ} {c : Row} → Accepted t g → Clique (Joined t) g' c → c.end ≤ 2147483647
clique_in_time A K = joined_in_time A (clique_pair K).is

-- a gauge fits exactly if the members with it are a clique too
pub fits_wider : {t : List ℕ} {g m x y k : ℕ} → Clique (Joined t) g (spanned m x y) → Fits t g m x y k → Clique (Joined t) g (with_gauge (spanned m x y) k)
fits_wider {k = k} K F = wider K k F.known (λ u h. record { up = λ _. joined_sym (F.near u h); down = λ _. F.near u h })

pub wider_fits : {t : List ℕ} {g m x y k : ℕ} → (Member k m → ⊥) → Clique (Joined t) g (with_gauge (spanned m x y) k) → Fits t g m x y k
wider_fits {m = m} {k = k} f K =
    let i = or_right m (2 ^ k) k (member_pow k) in
    record {
      known = K.known k i;
      further = f;
      near = λ u h. clique_covered K u k (or_left m (2 ^ k) u h) i (λ s. f (subst (λ (n : ℕ). Member n m) s h));
    }

module _ {t : List ℕ} {g m x y : ℕ} (S : Sound t g m x y) where
  -- the members are a clique over every span throughout which their pairs are joined
  pub pairs_clique : {a b : ℕ} → a ≤ b → ((u v : ℕ) → PairOf m u v → Joined t u v a b) → Clique (Joined t) g (spanned m a b)
  pairs_clique l j =
      record { span = l; known = S.known; two = S.two; joined = λ u v p q h. j u v (record { lower = p; higher = q; less = h }) }

  -- what the walks ask
  pub sound_walkable : Walkable t x y
  sound_walkable = record { apart = S.accepted.apart; span = S.span }

-- ---- no verdict before the n-th holds

pub none_before : {t : List ℕ} {g m x y n n' : ℕ} {values : List ℕ}
    → (1 < n → (u v : ℕ) → FirstUnjoined t x y (PairOf m) u v → ⊥)
    → (2 < n → (b : ℕ) → EarliestBegin t g m x y b → ⊥)
    → (3 < n → (e : ℕ) → LatestEnd t g m x y e → ⊥)
    → (4 < n → (k : ℕ) → LowestFit t g m x y k → ⊥)
    → n ≤ 5 → n' < n → Holds t g m x y n' values → ⊥
none_before f1 f2 f3 f4 l h (unjoined {u} {v} w) = f1 h u v w
none_before f1 f2 f3 f4 l h (earlier {b} w) = f2 h b w
none_before f1 f2 f3 f4 l h (later {e} w) = f3 h e w
none_before f1 f2 f3 f4 l h (further {k} w) = f4 h k w
none_before f1 f2 f3 f4 l h (a_group G) = omega arith

-- ---- each way out

pub judge_missing : {t : List ℕ} {g m x y u v : ℕ} → FirstUnjoined t x y (PairOf m) u v → FirstVerdict t g m x y 1 (u ∷ v ∷ [])
judge_missing w =
    record {
      holds = unjoined w;
      first = λ n' values' h. none_before (λ l. absurd (omega arith)) (λ l. absurd (omega arith)) (λ l. absurd (omega arith)) (λ l. absurd (omega arith)) (omega arith) h;
    }

module _ {t : List ℕ} {g m x y from upto : ℕ} (S : Sound t g m x y) (C : Common t x y (PairOf m) from upto) where
  no_missing : (u v : ℕ) → FirstUnjoined t x y (PairOf m) u v → ⊥
  no_missing u v w = w.unjoined (common_joined (sound_walkable S) C u v w.pair)

  no_earlier : x ≤ from → (b : ℕ) → EarliestBegin t g m x y b → ⊥
  no_earlier l b w = C.no_sooner b (omega (arith, w.earlier)) (clique_pairs w.clique)

  no_later : upto ≤ y → (e : ℕ) → LatestEnd t g m x y e → ⊥
  no_later l e w = C.no_longer e (omega (arith, w.later)) (omega (arith, clique_in_time S.accepted w.clique)) (clique_pairs w.clique)

  pub judge_earlier : from < x → FirstVerdict t g m x y 2 (from ∷ [])
  judge_earlier l =
      record {
        holds = earlier (record {
          earlier = l;
          clique = pairs_clique S (omega (arith, S.span)) (λ u v p. joined_narrow (le_refl from) (omega (arith, S.span)) C.lasts (C.joined u v p));
          first = λ z h K. C.no_sooner z h (clique_pairs K);
        });
        first = λ n' values' h. none_before (λ _. no_missing) (λ k. absurd (omega arith)) (λ k. absurd (omega arith)) (λ k. absurd (omega arith)) (omega arith) h;
      }

  pub judge_later : x ≤ from → y < upto → FirstVerdict t g m x y 3 (upto ∷ [])
  judge_later r l =
      record {
        holds = later (record {
          later = l;
          clique = pairs_clique S (omega (arith, S.span)) (λ u v p. joined_narrow C.begun (omega (arith, S.span)) (le_refl upto) (C.joined u v p));
          last = λ z h K. C.no_longer z h (omega (arith, clique_in_time S.accepted K)) (clique_pairs K);
        });
        first = λ n' values' h. none_before (λ _. no_missing) (λ _. no_earlier r) (λ k. absurd (omega arith)) (λ k. absurd (omega arith)) (omega arith) h;
      }

  module _ (r : x ≤ from) (l : upto ≤ y) where
    pub judge_further : {k : ℕ} → LowestFit t g m x y k → FirstVerdict t g m x y 4 (k ∷ [])
    judge_further F =
        record {
          holds = further F;
          first = λ n' values' i. none_before (λ _. no_missing) (λ _. no_earlier r) (λ _. no_later l) (λ i. absurd (omega arith)) (omega arith) i;
        }

    pub judge_group : ((j : ℕ) → Fits t g m x y j → ⊥) → FirstVerdict t g m x y 5 []
    judge_group none =
        record {
          holds = a_group (local_group (joined_lawful t) (record {
            clique = pairs_clique S S.span (common_joined (sound_walkable S) C);
            no_further = λ j f K. none j (wider_fits f K);
            no_earlier = λ z e K. C.no_sooner z (omega arith) (clique_pairs K);
            no_later = λ K. C.no_longer (suc y) (omega arith) (omega (arith, clique_in_time S.accepted K)) (clique_pairs K);
          }));
          first = λ n' values' i. none_before (λ _. no_missing) (λ _. no_earlier r) (λ _. no_later l)
              (λ _ j w. none j w.fits) (omega arith) i;
        }

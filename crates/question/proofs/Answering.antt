-- What the answers mean: when the answer is "a group", what verdicts 2 to 4 name, what a span past the last permitted hour is answered, and why a question is refused.
-- Assumes nothing.
use mathlib.Core.Logic.{inl, inr, ⊎_elim, dite}
use mathlib.Core.Path.{◌≡◌, refl, sym, ap, ◌∙◌}
use mathlib.Core.List.{List, [], ◌∷◌}
use Prim.Native.Nat.{ℕ, ◌^◌, ◌≤◌, ◌<◌}
use native.Mathlib.Decide.{ℕ_discrete, dec_lt}
use native.Mathlib.Nat.{le_refl, le_of_lt}
use native.Mathlib.Omega.{arith}
use lib.Bits.{bit_or}
use Rattle.gauges.specs.Sets.{Member}
use Rattle.gauges.proofs.Laws.{within_refl}
use Rattle.std.specs.Prelude.{Ok, Err}
use Rattle.links.specs.Links.{Joined, Accepted}
use Rattle.links.specs.Faults.{no_fault}
use Rattle.links.proofs.Reasons.{fault≢no_fault, reason_of, place_of}
use Rattle.cliques.specs.Groups.{Row, Clique, Strictly, Group as IsGroup}
use Rattle.cliques.specs.Lists.{InList, Complete}
use Rattle.cliques.proofs.Rows.{with_gauge_strictly}
use Rattle.question.specs.Refusals.{First, question_fault}
use Rattle.question.specs.Verdicts.{spanned, PairOf, FirstUnjoined, EarliestBegin, LatestEnd, LowestFit, Holds, unjoined, earlier, later, further, a_group}
use Rattle.question.specs.Answers.{number_of, refused, verdict, Answer, said_of, Right}
use Rattle.question.specs.declared.reply.Verdict.{Verdict}
use Rattle.question.specs.declared.reply.Verdict.TheVariants.{Missing, Earlier, Later, Further, Group}
use Rattle.question.proofs.Reasons.{no_fault_sound, sound_no_fault, refusal_first, first_refusal}
use Rattle.question.proofs.Judging.{joined_in_time, clique_in_time, clique_pairs, fits_wider, pairs_clique, none_before}
use Rattle.question.proofs.FirstPair.{joined_or_first}
use Rattle.question.proofs.OneReply.{ask_one}

-- ---- rows that are one change larger

earlier_strictly : {m x y b : ℕ} → b < x → Strictly (spanned m x y) (spanned m b y)
earlier_strictly {m} {y = y} l =
    record {
      inside = record { gauges = within_refl m; from = le_of_lt l; upto = le_refl y };
      differ = λ s. omega (arith, ap (λ (c : Row). c.begin) s);
    }

later_strictly : {m x y e : ℕ} → y < e → Strictly (spanned m x y) (spanned m x e)
later_strictly {m} {x = x} l =
    record {
      inside = record { gauges = within_refl m; from = le_refl x; upto = le_of_lt l };
      differ = λ s. omega (arith, ap (λ (c : Row). c.end) s);
    }

-- ---- what a verdict says, by its number

module _ {t : List ℕ} {g m x y : ℕ} where
  says_1 : {u v : ℕ} → Holds t g m x y 1 (u ∷ v ∷ []) → FirstUnjoined t x y (PairOf m) u v
  says_1 (unjoined w) = w

  says_2 : {b : ℕ} → Holds t g m x y 2 (b ∷ []) → EarliestBegin t g m x y b
  says_2 (earlier w) = w

  says_3 : {e : ℕ} → Holds t g m x y 3 (e ∷ []) → LatestEnd t g m x y e
  says_3 (later w) = w

  says_4 : {k : ℕ} → Holds t g m x y 4 (k ∷ []) → LowestFit t g m x y k
  says_4 (further w) = w

  says_5 : Holds t g m x y 5 [] → IsGroup (Joined t) g (spanned m x y)
  says_5 (a_group G) = G

-- ---- "a group"

module _ (t : List ℕ) (g m x y : ℕ) where
  -- the answer is "a group" only if the table is accepted and (begin, end, members) is a group of it,
  pub answer_group : Right t g m x y (said_of (Ok Group)) → Accepted t g × IsGroup (Joined t) g (spanned m x y)
  answer_group r = ((no_fault_sound r.0).accepted, says_5 r.1.holds)

  -- "a group" is right of a group,
  group_right : Accepted t g → IsGroup (Joined t) g (spanned m x y) → Right t g m x y (said_of (Ok Group))
  group_right A G =
      let K = G.clique in (
        sound_no_fault (record { accepted = A; known = K.known; two = K.two; span = K.span }),
        record {
          holds = a_group G;
          first = λ n' values' h. none_before
              (λ _ u v w. w.unjoined (clique_pairs K u v w.pair))
              (λ _ b w. G.maximal (spanned m b y) w.clique (earlier_strictly w.earlier))
              (λ _ e w. G.maximal (spanned m x e) w.clique (later_strictly w.later))
              (λ _ k w. G.maximal (spanned (bit_or m (2 ^ k)) x y) (fits_wider K w.fits) (with_gauge_strictly (spanned m x y) k w.fits.further))
              (omega arith) h;
        },
      )

  -- so of a group of an accepted table the answer is "a group",
  pub group_answer : Accepted t g → IsGroup (Joined t) g (spanned m x y) → (a : Answer) → Right t g m x y (said_of a) → a ≡ Ok Group
  group_answer A G a r = ask_one t g m x y a (Ok Group) r (group_right A G)

  -- and a row of which the answer is "a group" is in the complete list
  pub group_listed : {rows : ℕ → Row} {k : ℕ} → Right t g m x y (said_of (Ok Group)) → Complete (Joined t) g rows k → InList rows k (spanned m x y)
  group_listed r C = C.complete (spanned m x y) (answer_group r).1

-- ---- verdicts 2, 3 and 4

-- the set and span that a verdict names: those asked about with the new begin, the new end or the further gauge
abbrev pub named : ℕ → ℕ → ℕ → Verdict → Row
named m x y (Missing u v) = spanned m x y
named m x y (Earlier b) = spanned m b y
named m x y (Later e) = spanned m x e
named m x y (Further k) = spanned (bit_or m (2 ^ k)) x y
named m x y Group = spanned m x y

-- c and d are cliques, and c lies strictly inside d
pub record StrictlyInside (t : List ℕ) (g : ℕ) (c d : Row) : Type 0 where
  pub clique : Clique (Joined t) g c
  pub larger : Clique (Joined t) g d
  pub strictly : Strictly c d

module _ (t : List ℕ) (g m x y : ℕ) where
  -- where verdict 1 is not the answer, the members are a clique over the span
  pub verdict_clique : (n : ℕ) (values : List ℕ) → Right t g m x y (verdict n values) → 2 ≤ n → Clique (Joined t) g (spanned m x y)
  verdict_clique n values r l =
      let S = no_fault_sound r.0 in
      ⊎_elim
      (pairs_clique S S.span)
      (λ w. absurd (r.1.first 1 (w.0 ∷ w.1 ∷ []) l (unjoined w.2)))
      (joined_or_first t m x y g S.known)

  -- verdict 2, 3 or 4 names a clique that the asked one lies strictly inside
  pub verdict_larger : (v : Verdict) → Right t g m x y (said_of (Ok v)) → 2 ≤ number_of v → number_of v ≤ 4 → StrictlyInside t g (spanned m x y) (named m x y v)
  verdict_larger (Missing u v) r l h = absurd (omega arith)
  verdict_larger (Earlier b) r l h =
      let w = says_2 r.1.holds in
      record { clique = verdict_clique 2 (b ∷ []) r l; larger = w.clique; strictly = earlier_strictly w.earlier }
  verdict_larger (Later e) r l h =
      let w = says_3 r.1.holds in
      record { clique = verdict_clique 3 (e ∷ []) r l; larger = w.clique; strictly = later_strictly w.later }
  verdict_larger (Further k) r l h =
      let w = (says_4 r.1.holds).fits in
      let K = verdict_clique 4 (k ∷ []) r l in
      record { clique = K; larger = fits_wider K w; strictly = with_gauge_strictly (spanned m x y) k w.further }
  verdict_larger Group r l h = absurd (omega arith)

-- ---- a span past the last permitted hour

-- u and v are the two lowest members: the only member below v is u
pub record TwoLowest (m u v : ℕ) : Type 0 where
  pub pair : PairOf m u v
  pub only : (k : ℕ) → Member k m → k < v → k ≡ u

module _ (t : List ℕ) (g m x y : ℕ) (clear : question_fault t g m x y ≡ no_fault) (late : 2147483647 < y) where
  -- nothing is joined throughout it,
  none_joined : {u v : ℕ} → Joined t u v x y → ⊥
  none_joined j = omega (arith, joined_in_time (no_fault_sound clear).accepted j)

  -- so the first pair that isn't joined is that of the two lowest members
  first_lowest : {u v : ℕ} → FirstUnjoined t x y (PairOf m) u v → TwoLowest m u v
  first_lowest {u} {v} w =
      record {
        pair = w.pair;
        only = λ k h l. dite (ℕ_discrete k u) (λ e. e) (λ d. absurd (dite (dec_lt k u)
            (λ b. none_joined (w.first k u (record { lower = h; higher = w.pair.lower; less = b }) (inl b)))
            (λ b. none_joined (w.first u k (record { lower = w.pair.lower; higher = h; less = omega arith }) (inr (refl, l))))));
      }

  -- and the members are no clique
  no_clique : (n : ℕ) (values : List ℕ) → Right t g m x y (verdict n values) → 2 ≤ n → ⊥
  no_clique n values r l = omega (arith, clique_in_time (no_fault_sound clear).accepted (verdict_clique t g m x y n values r l))

  -- a question that is not refused and whose span ends past the last permitted hour is answered by verdict 1 with the two lowest members
  pub past_last : (a : Answer) → Right t g m x y (said_of a) → (u : ℕ) × (v : ℕ) × (a ≡ Ok (Missing u v)) × TwoLowest m u v
  past_last (Err r) e = absurd (fault≢no_fault (sym e ∙ clear))
  past_last (Ok (Missing u v)) r = (u, v, refl, first_lowest (says_1 r.1.holds))
  past_last (Ok (Earlier b)) r = absurd (no_clique 2 (b ∷ []) r (omega arith))
  past_last (Ok (Later e)) r = absurd (no_clique 3 (e ∷ []) r (omega arith))
  past_last (Ok (Further k)) r = absurd (no_clique 4 (k ∷ []) r (omega arith))
  past_last (Ok Group) r = absurd (no_clique 5 [] r (omega arith))

-- ---- refusals

module _ (t : List ℕ) (g m x y : ℕ) where
  -- a refusal names the first reason that document 01 gives, with its place,
  pub refused_first : {n p : ℕ} → Right t g m x y (refused n p) → First t g m x y n p
  refused_first = refusal_first t g m x y

  -- and where that is the first reason, the answer is its refusal
  pub first_refused : {n p : ℕ} → First t g m x y n p → (a : Answer) → Right t g m x y (said_of a) → said_of a ≡ refused n p
  first_refused {n} {p} F (Err r) e = let s = sym e ∙ first_refusal t g m x y F in λ i. refused (reason_of (s i)) (place_of (s i))
  first_refused F (Ok v) r = absurd (fault≢no_fault (sym (first_refusal t g m x y F) ∙ r.0))

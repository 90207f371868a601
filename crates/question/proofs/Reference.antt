-- The right answer to every question, by computing: what is unfoldable here decides at numerals. Assumes nothing.
use mathlib.Core.Logic.{◌⊎◌, inl, inr, ⊎_elim, dite}
use mathlib.Core.Path.{◌≡◌, refl, sym, subst}
use mathlib.Core.List.{List, [], ◌∷◌}
use Prim.Native.Nat.{ℕ, zero, suc, ◌<◌}
use native.Mathlib.Decide.{ℕ_discrete, dec_lt}
use native.Mathlib.Nat.{le_refl}
use native.Mathlib.Omega.{arith}
use Rattle.gauges.proofs.Bounded.{None, none_yet}
use Rattle.gauges.proofs.Laws.{member_dec}
use Rattle.std.specs.Prelude.{Ok, Err}
use Rattle.links.specs.Links.{Joined}
use Rattle.links.proofs.Numbered.{numbered, IsNumber, given_number}
use Rattle.links.specs.Faults.{Fault, no_fault, fault}
use Rattle.cliques.specs.Groups.{Clique}
use Rattle.cliques.proofs.Rows.{with_gauge}
use Rattle.cliques.proofs.Cliques.{clique_dec, clique_last}
use Rattle.cliques.proofs.Local.{local_group}
use Rattle.cliques.proofs.Tables.{joined_lawful}
use Rattle.question.specs.Refusals.{Given, of_table, unknown_member, few_members, backward, question_fault}
use Rattle.question.specs.Verdicts.{spanned, PairOf, FirstUnjoined, EarliestBegin, LatestEnd, Fits}
use Rattle.question.specs.Verdicts.{Holds, unjoined, earlier, later, further, a_group, FirstVerdict}
use Rattle.question.specs.Answers.{Said, refused, verdict, Answer, said_of, Right}
use Rattle.question.specs.declared.reply.Verdict.TheVariants.{Missing, Earlier, Later, Further, Group}
use Rattle.question.proofs.FirstPair.{none_or_first, joined_or_first}
use Rattle.question.proofs.Judging.{clique_pairs, fits_wider, wider_fits, pairs_clique, none_before, judge_missing}
use Rattle.question.proofs.Reasons.{Sound, no_fault_sound, refusal_first}

-- ---- the last number below a bound that has a property

pub record Last (P : ℕ → Type 0) (n : ℕ) : Type 0 where
  pub number : ℕ
  pub below : number < n
  pub holds : P number
  pub last : (k : ℕ) → number < k → k < n → P k → ⊥

unfoldable pub none_or_last : {P : ℕ → Type 0} → ((k : ℕ) → Dec (P k)) → (n : ℕ) → None P n ⊎ Last P n
none_or_last d zero = inl none_yet
none_or_last {P} d (suc n) =
    dite (d n)
    (λ p. inr (record { number = n; below = le_refl (suc n); holds = p; last = λ k h l q. omega arith }))
    (λ q. ⊎_elim
    (λ f. inl (record { none = λ k h p. dite (ℕ_discrete k n) (λ e. q (subst P e p)) (λ e. f.none k (omega arith) p) }))
    (λ s. inr (record {
      number = s.number;
      below = omega (arith, s.below);
      holds = s.holds;
      last = λ k h l p. dite (ℕ_discrete k n) (λ e. q (subst P e p)) (λ e. s.last k h (omega arith) p);
    }))
    (none_or_last d n))

-- ---- the first verdict of members that are a clique over the span

-- a verdict with its values, which is the first that holds
abbrev Found : List ℕ → ℕ → ℕ → ℕ → ℕ → Type 0
Found t g m x y = (n : ℕ) × (values : List ℕ) × FirstVerdict t g m x y n values

module _ {t : List ℕ} {g m x y : ℕ} (K : Clique (Joined t) g (spanned m x y)) where
  pub no_missing : (u v : ℕ) → FirstUnjoined t x y (PairOf m) u v → ⊥
  no_missing u v w = w.unjoined (clique_pairs K u v w.pair)

  -- whether gauge k fits is decided
  unfoldable fits_dec : (k : ℕ) → Dec (Fits t g m x y k)
  unfolding clique_dec member_dec joined_lawful
  fits_dec k =
      dite (member_dec k m)
      (λ h. no (λ f. f.further h))
      (λ f. dite (clique_dec (joined_lawful t) g (with_gauge (spanned m x y) k)) (λ w. yes (wider_fits f w)) (λ q. no (λ w. q (fits_wider K w))))

  module _ (start : None (λ z. Clique (Joined t) g (spanned m z y)) x) where
    pub no_earlier : (b : ℕ) → EarliestBegin t g m x y b → ⊥
    no_earlier b w = start.none b w.earlier w.clique

    module _ (end : (z : ℕ) → y < z → Clique (Joined t) g (spanned m x z) → ⊥) where
      pub no_later : (e : ℕ) → LatestEnd t g m x y e → ⊥
      no_later e w = end e w.later w.clique

      -- 4 or 5
      unfoldable by_gauge : Found t g m x y
      unfolding none_or_first fits_dec
      by_gauge =
          ⊎_elim
          (λ f. (
            5,
            [],
            record {
              holds = a_group (local_group (joined_lawful t) (record {
                clique = K;
                no_further = λ k n w. let F = wider_fits n w in f.none k F.known F;
                no_earlier = λ z e w. start.none z (omega arith) w;
                no_later = λ w. end (suc y) (omega arith) w;
              }));
              first = λ n' values' h. none_before (λ _. no_missing) (λ _. no_earlier) (λ _. no_later) (λ _ k w. f.none k w.fits.known w.fits) (omega arith) h;
            },
          ))
          (λ s. (
            4,
            s.number ∷ [],
            record {
              holds = further (record { fits = s.holds; first = s.first.none });
              first = λ n' values' h. none_before (λ _. no_missing) (λ _. no_earlier) (λ _. no_later) (λ l. absurd (omega arith)) (omega arith) h;
            },
          ))
          (none_or_first fits_dec g)

    -- 3, or the next
    unfoldable by_end : Found t g m x y
    unfolding none_or_last clique_dec joined_lawful dec_lt by_gauge
    by_end =
        let bound = (joined_lawful t).last in
        ⊎_elim
        (λ f. absurd (f.none y (omega (arith, clique_last (joined_lawful t) K)) K))
        (λ s.
        let beyond : (z : ℕ) → s.number < z → Clique (Joined t) g (spanned m x z) → ⊥ = λ z h w. s.last z h (omega (arith, clique_last (joined_lawful t) w)) w in
        dite (dec_lt y s.number)
        (λ l. (
          3,
          s.number ∷ [],
          record {
            holds = later (record { later = l; clique = s.holds; last = beyond });
            first = λ n' values' h. none_before (λ _. no_missing) (λ _. no_earlier) (λ l. absurd (omega arith)) (λ l. absurd (omega arith)) (omega arith) h;
          },
        ))
        (λ l. by_gauge (λ z h. beyond z (omega arith))))
        (none_or_last (λ z. clique_dec (joined_lawful t) g (spanned m x z)) (suc bound))

  -- 2, or the next
  unfoldable by_begin : Found t g m x y
  unfolding none_or_first clique_dec joined_lawful by_end
  by_begin =
      ⊎_elim
      by_end
      (λ s. (
        2,
        s.number ∷ [],
        record {
          holds = earlier (record { earlier = s.below; clique = s.holds; first = s.first.none });
          first = λ n' values' h. none_before (λ _. no_missing) (λ l. absurd (omega arith)) (λ l. absurd (omega arith)) (λ l. absurd (omega arith)) (omega arith) h;
        },
      ))
      (none_or_first (λ z. clique_dec (joined_lawful t) g (spanned m z y)) x)

-- ---- the answer

-- 1, or the next
unfoldable pub found_verdict : {t : List ℕ} {g m x y : ℕ} → Sound t g m x y → Found t g m x y
unfolding joined_or_first by_begin
found_verdict {t} {g} {m} {x} {y} S =
    ⊎_elim
    (λ j. by_begin (pairs_clique S S.span j))
    (λ w. (1, w.0 ∷ w.1 ∷ [], judge_missing w.2))
    (joined_or_first t m x y g S.known)

unfoldable by_fault : (t : List ℕ) (g m x y : ℕ) (f : Fault) → question_fault t g m x y ≡ f → (s : Said) × Right t g m x y s
unfolding found_verdict
by_fault t g m x y no_fault e = let w = found_verdict (no_fault_sound e) in (verdict w.0 w.1, (e, w.2))
by_fault t g m x y (fault n p) e = (refused n p, e)

-- what is right to say of a question
unfoldable pub right_said : (t : List ℕ) (g m x y : ℕ) → (s : Said) × Right t g m x y s
unfolding by_fault question_fault
right_said t g m x y = by_fault t g m x y (question_fault t g m x y) refl

-- every question has an answer that is right
said_answer : {t : List ℕ} {g m x y n : ℕ} {values : List ℕ} → Holds t g m x y n values → (a : Answer) × (said_of a ≡ verdict n values)
said_answer (unjoined {u} {v} w) = (Ok (Missing u v), refl)
said_answer (earlier {b} w) = (Ok (Earlier b), refl)
said_answer (later {e} w) = (Ok (Later e), refl)
said_answer (further {k} w) = (Ok (Further k), refl)
said_answer (a_group G) = (Ok Group, refl)

-- a reason to refuse a question has a number that a reason has
pub question_number : {t : List ℕ} {g m x y n p : ℕ} → Given t g m x y n p → IsNumber n
question_number (of_table w) = given_number w
question_number (unknown_member h l) = refl
question_number (few_members h) = refl
question_number (backward h) = refl

right_answer : (t : List ℕ) (g m x y : ℕ) (s : Said) → Right t g m x y s → (a : Answer) × Right t g m x y (said_of a)
right_answer t g m x y (refused n p) r =
    let known = question_number (refusal_first t g m x y r).given in
    (Err (record { reason = numbered n; place = p }), subst (λ (k : ℕ). question_fault t g m x y ≡ fault k p) (sym known) r)
right_answer t g m x y (verdict n values) r = let w = said_answer r.1.holds in (w.0, subst (Right t g m x y) (sym w.1) r)

pub answer_exists : (t : List ℕ) (g m x y : ℕ) → (a : Answer) × Right t g m x y (said_of a)
answer_exists t g m x y = right_answer t g m x y (right_said t g m x y).0 (right_said t g m x y).1

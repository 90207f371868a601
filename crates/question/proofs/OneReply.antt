-- No second answer fits: the promise of `ask` fixes the answer for every input. Assumes nothing.
use mathlib.Core.Logic.{inl, inr, dite}
use mathlib.Core.Path.{◌≡◌, refl, sym, ap, subst, ◌∙◌}
use mathlib.Core.List.{List, [], ◌∷◌}
use Prim.Native.Nat.{ℕ, zero, suc, ◌≤◌, ◌<◌}
use native.Mathlib.Decide.{ℕ_discrete, dec_lt}
use native.Mathlib.Omega.{arith}
use lib.ListN.{get_or}
use Rattle.std.specs.Prelude.{Ok, Err}
use Rattle.links.proofs.Numbered.{refusal_one}
use Rattle.links.proofs.Reasons.{fault≢no_fault, reason_of, place_of}
use Rattle.question.specs.Verdicts.{FirstUnjoined, EarliestBegin, LatestEnd, LowestFit, Holds, unjoined, earlier, later, further, a_group, FirstVerdict}
use Rattle.question.specs.Answers.{Said, refused, verdict, number_of, values_of, Answer, said_of, Right}
use Rattle.question.specs.declared.reply.Verdict.{Verdict}
use Rattle.question.specs.declared.reply.Verdict.TheVariants.{Missing, Earlier, Later, Further, Group}

-- ---- each verdict has one cause

at_most : {a b : ℕ} → (b < a → ⊥) → a ≤ b
at_most {a} {b} f = dite (dec_lt b a) (λ l. absurd (f l)) (λ l. omega arith)

module _ {t : List ℕ} {x y u v a b : ℕ} {P : ℕ → ℕ → Type 0} (p : FirstUnjoined t x y P u v) (q : FirstUnjoined t x y P a b) where
  lower_least : u ≤ a
  lower_least = at_most (λ l. q.unjoined (p.first a b q.pair (inl l)))

  higher_least : a ≡ u → v ≤ b
  higher_least e = at_most (λ l. q.unjoined (p.first a b q.pair (inr (e, l))))

missing_one : {t : List ℕ} {x y u v a b : ℕ} {P : ℕ → ℕ → Type 0} → FirstUnjoined t x y P u v → FirstUnjoined t x y P a b → (u ≡ a) × (v ≡ b)
missing_one {u = u} {a = a} p q =
    let low : u ≡ a = omega (arith, lower_least p q, lower_least q p) in
    (low, omega (arith, higher_least p q (sym low), higher_least q p low))

begin_least : {t : List ℕ} {g m x y b c : ℕ} → EarliestBegin t g m x y b → EarliestBegin t g m x y c → b ≤ c
begin_least {c = c} p q = at_most (λ l. p.first c l q.clique)

end_most : {t : List ℕ} {g m x y e f : ℕ} → LatestEnd t g m x y e → LatestEnd t g m x y f → e ≤ f
end_most {e = e} p q = at_most (λ l. q.last e l p.clique)

gauge_least : {t : List ℕ} {g m x y k j : ℕ} → LowestFit t g m x y k → LowestFit t g m x y j → k ≤ j
gauge_least {j = j} p q = at_most (λ l. p.first j l q.fits)

-- a verdict holds with one list of values
pub holds_one : {t : List ℕ} {g m x y n : ℕ} {values values' : List ℕ} → Holds t g m x y n values → Holds t g m x y n values' → values ≡ values'
holds_one (unjoined p) (unjoined q) = let s = missing_one p q in λ i. s.0 i ∷ s.1 i ∷ []
holds_one (earlier p) (earlier q) = ap (λ (b : ℕ). b ∷ []) (omega (arith, begin_least p q, begin_least q p))
holds_one (later p) (later q) = ap (λ (e : ℕ). e ∷ []) (omega (arith, end_most p q, end_most q p))
holds_one (further p) (further q) = ap (λ (k : ℕ). k ∷ []) (omega (arith, gauge_least p q, gauge_least q p))
holds_one (a_group G) (a_group H) = refl

-- no two verdicts are both the first
pub verdict_one : {t : List ℕ} {g m x y n n' : ℕ} {values values' : List ℕ} → FirstVerdict t g m x y n values → FirstVerdict t g m x y n' values' → (n ≡ n') × (values ≡ values')
verdict_one {t} {g} {m} {x} {y} {n} {n'} {values} {values'} p q =
    dite (ℕ_discrete n n')
    (λ e. (e, holds_one p.holds (subst (λ (k : ℕ). Holds t g m x y k values') (sym e) q.holds)))
    (λ d. absurd (dite (dec_lt n n') (λ l. q.first n values l p.holds) (λ l. p.first n' values' (omega arith) q.holds)))

-- ---- answers that say the same are the same

-- the verdict of a number and values
verdict_of : ℕ → List ℕ → Verdict
verdict_of zero vs = Group
verdict_of (suc zero) vs = Missing (get_or vs 0 0) (get_or vs 1 0)
verdict_of (suc (suc zero)) vs = Earlier (get_or vs 0 0)
verdict_of (suc (suc (suc zero))) vs = Later (get_or vs 0 0)
verdict_of (suc (suc (suc (suc zero)))) vs = Further (get_or vs 0 0)
verdict_of (suc (suc (suc (suc (suc n))))) vs = Group

verdict_back : (v : Verdict) → verdict_of (number_of v) (values_of v) ≡ v
unfolding verdict_of
verdict_back (Missing u v) = refl
verdict_back (Earlier b) = refl
verdict_back (Later e) = refl
verdict_back (Further k) = refl
verdict_back Group = refl

-- one thing is right to say of a question
pub right_one : (t : List ℕ) (g m x y : ℕ) (s s' : Said) → Right t g m x y s → Right t g m x y s' → s ≡ s'
right_one t g m x y (refused n p) (refused n' p') r r' = let e = sym r ∙ r' in λ i. refused (reason_of (e i)) (place_of (e i))
right_one t g m x y (refused n p) (verdict n' vs) r r' = absurd (fault≢no_fault (sym r ∙ r'.0))
right_one t g m x y (verdict n vs) (refused n' p) r r' = absurd (fault≢no_fault (sym r' ∙ r.0))
right_one t g m x y (verdict n vs) (verdict n' vs') r r' = let e = verdict_one r.1 r'.1 in λ i. verdict (e.0 i) (e.1 i)

-- no second answer fits `ask`
pub ask_one : (t : List ℕ) (g m x y : ℕ) (a b : Answer) → Right t g m x y (said_of a) → Right t g m x y (said_of b) → a ≡ b
ask_one t g m x y (Err r) (Err s) p q = let e = sym p ∙ q in ap Err (refusal_one (ap reason_of e) (ap place_of e))
ask_one t g m x y (Err r) (Ok w) p q = absurd (fault≢no_fault (sym p ∙ q.0))
ask_one t g m x y (Ok v) (Err s) p q = absurd (fault≢no_fault (sym q ∙ p.0))
ask_one t g m x y (Ok v) (Ok w) p q =
    let s = verdict_one p.1 q.1 in
    ap Ok (sym (verdict_back v) ∙ (λ i. verdict_of (s.0 i) (s.1 i)) ∙ verdict_back w)

-- Walking a set from its lowest gauge up: what is left of it after each turn. Assumes nothing.
use mathlib.Core.Logic.{⊎_elim, dite}
use mathlib.Core.Path.{◌≡◌, subst}
use Prim.Native.Nat.{ℕ, ◌<◌}
use native.Mathlib.Decide.{ℕ_discrete}
use native.Mathlib.Omega.{arith}
use Rattle.gauges.specs.Sets.{Member, Within}
use Rattle.gauges.specs.Members.{Taken}
use Rattle.gauges.proofs.Laws.{member_dec, member_zero, within_refl}

-- what is left of m: gauges of m, and every gauge of m that is passed is lower than each of them
pub record Rest (m rest : ℕ) : Type 0 where
  pub within : Within rest m
  pub passed : (j k : ℕ) → Member j m → (Member j rest → ⊥) → Member k rest → j < k

-- at first all of m is left
pub rest_all : (m : ℕ) → Rest m m
rest_all m = record { within = within_refl m; passed = λ j k h f. absurd (f h) }

module _ {m rest k rest' : ℕ} (R : Rest m rest) (T : Taken rest k rest') where
  -- the gauge that is taken is one of m
  pub taken_in : Member k m
  unfolding Within
  taken_in = R.within k T.there

  -- what is left then is left of m
  pub rest_next : Rest m rest'
  unfolding Within
  rest_next =
      record {
        within = λ j h. R.within j (T.still j h);
        passed = λ j i h f l.
            dite (member_dec j rest)
            (λ q. ⊎_elim
            (λ e. dite (ℕ_discrete i k) (λ d. absurd (T.gone (subst (λ (n : ℕ). Member n rest') d l))) (λ d. omega (arith, T.lowest i (T.still i l))))
            (λ q'. absurd (f q'))
            (T.kept j q))
            (λ q. R.passed j i h q (T.still i l));
      }

  -- a gauge of m that is lower than k is passed
  pub lower_passed : (j : ℕ) → j < k → Member j rest → ⊥
  lower_passed j l h = omega (arith, T.lowest j h)

  -- and one that is higher is left
  pub higher_left : (j : ℕ) → Member j m → k < j → Member j rest'
  higher_left j h l =
      dite (member_dec j rest)
      (λ q. ⊎_elim (λ e. absurd (omega arith)) (λ q'. q') (T.kept j q))
      (λ q. absurd (omega (arith, R.passed j k h q T.there)))

  -- a gauge that is left is higher
  pub left_higher : (j : ℕ) → Member j rest' → k < j
  left_higher j h = dite (ℕ_discrete j k) (λ d. absurd (T.gone (subst (λ (n : ℕ). Member n rest') d h))) (λ d. omega (arith, T.lowest j (T.still j h)))

-- nothing is left of 0
pub none_left : {rest : ℕ} → rest ≡ 0 → (j : ℕ) → Member j rest → ⊥
none_left e j h = member_zero j (subst (Member j) e h)

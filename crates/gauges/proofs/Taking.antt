-- Taking the lowest gauge out of a set: what the code does takes it out, fewer are left, and what is passed. Assumes nothing.
use mathlib.Core.Logic.{◌⊎◌, inl, inr, ⊎_elim, dite}
use mathlib.Core.Path.{◌≡◌, sym, subst}
use Prim.Native.Nat.{ℕ, ◌-◌, ◌^◌, ◌<◌}
use native.Mathlib.Decide.{ℕ_discrete, dec_le}
use native.Mathlib.Omega.{arith}
use lib.Bits.{bit_and}
use lib.Count.{ones}
use Rattle.gauges.specs.Sets.{Member, Within, Only, Lowest}
use Rattle.gauges.specs.Members.{Taken}
use Rattle.gauges.proofs.Laws.{member_dec, member_ext, without_in, without_left, without_right, ones_missing}

-- what the code does takes out the lowest gauge
pub taken : {rest k o : ℕ} → rest < 2 ^ 64 → o < 2 ^ 64 → (rest ≡ 0 → ⊥) → Lowest rest k → Only k o → Taken rest k (bit_and rest ((2 ^ 64 - 1) - o))
taken {rest} {k} {o} l s f low one =
    record {
      gauge = low.gauge f;
      there = low.there f;
      lowest = λ j h. dite (dec_le k j) (λ e. e) (λ e. absurd (low.first j (omega arith) h));
      gone = λ h. without_right rest o k 64 s h (one.there (low.gauge f));
      kept = λ j h. dite (ℕ_discrete j k) inl (λ d. inr (without_in rest o j 64 l s h (λ p. d (one.just j p))));
      still = λ j h. without_left rest o j 64 h;
    }

-- fewer are left
pub taken_less : {rest k rest' : ℕ} → Taken rest k rest' → ones rest' < ones rest
unfolding Within
taken_less {rest} {k} {rest'} T = ones_missing rest' rest k T.still T.there T.gone

-- a gauge that is passed after the turn was passed before, or is the one taken
pub passed_or_taken : {rest k rest' : ℕ} → Taken rest k rest' → (j : ℕ) → (Member j rest' → ⊥) → (Member j rest → ⊥) ⊎ (j ≡ k)
passed_or_taken {rest} T j f = dite (member_dec j rest) (λ h. ⊎_elim inr (λ q. absurd (f q)) (T.kept j h)) inl

-- what is left is the set without the gauge that was taken
pub taken_is : {m k m' o : ℕ} → m < 2 ^ 64 → o < 2 ^ 64 → Only k o → Taken m k m' → m' ≡ bit_and m ((2 ^ 64 - 1) - o)
unfolding Within
taken_is {m} {k} {m'} {o} l s one T = member_ext m' (bit_and m ((2 ^ 64 - 1) - o))
    (λ j h. without_in m o j 64 l s (T.still j h) (λ x. T.gone (subst (λ (n : ℕ). Member n m') (one.just j x) h)))
    (λ j h. ⊎_elim
    (λ e. absurd (without_right m o j 64 s h (subst (λ (n : ℕ). Member n o) (sym e) (one.there T.gauge))))
    (λ x. x)
    (T.kept j (without_left m o j 64 h)))

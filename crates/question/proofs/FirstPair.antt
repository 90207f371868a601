-- The first of something: a first number that has a property, and the first pair of a set that isn't joined, are found, or there is none. Assumes nothing.
use mathlib.Core.Logic.{◌⊎◌, inl, inr, ⊎_elim, dite}
use mathlib.Core.Path.{sym, subst}
use mathlib.Core.List.{List}
use Prim.Native.Nat.{ℕ, zero, suc, ◌<◌}
use native.Mathlib.Decide.{ℕ_discrete, dec_lt}
use native.Mathlib.Nat.{le_refl}
use native.Mathlib.Omega.{arith}
use Rattle.gauges.specs.Sets.{Member}
use Rattle.gauges.proofs.Bounded.{None, none_yet, given}
use Rattle.gauges.proofs.Laws.{member_dec}
use Rattle.links.specs.Links.{Joined}
use Rattle.cliques.proofs.Tables.{joined_lawful}
use Rattle.question.specs.Verdicts.{PairOf, FirstUnjoined}

-- the first of the numbers below n that has P
pub record First (P : ℕ → Type 0) (n : ℕ) : Type 0 where
  pub number : ℕ
  pub below : number < n
  pub holds : P number
  pub first : None P number

-- none of them has it, or the first is found
unfoldable pub none_or_first : {P : ℕ → Type 0} → ((k : ℕ) → Dec (P k)) → (n : ℕ) → None P n ⊎ First P n
none_or_first d zero = inl none_yet
none_or_first {P} d (suc n) =
    ⊎_elim
    (λ f. dite (d n)
    (λ p. inr (record { number = n; below = le_refl (suc n); holds = p; first = f }))
    (λ q. inl (record { none = λ k h p. dite (ℕ_discrete k n) (λ e. q (subst P e p)) (λ e. f.none k (omega arith) p) })))
    (λ s. inr (record { number = s.number; below = omega (arith, s.below); holds = s.holds; first = s.first }))
    (none_or_first d n)

-- a pair of m that isn't joined throughout
pub record Unjoined (t : List ℕ) (m x y u v : ℕ) : Type 0 where
  pub pair : PairOf m u v
  pub unjoined : Joined t u v x y → ⊥

module _ (t : List ℕ) (m x y : ℕ) where
  unfoldable pair_dec : (u v : ℕ) → Dec (PairOf m u v)
  unfolding member_dec dec_lt
  pair_dec u v =
      given (member_dec u m) (λ p. p.lower) (λ a.
      given (member_dec v m) (λ p. p.higher) (λ b.
      given (dec_lt u v) (λ p. p.less) (λ l. yes (record { lower = a; higher = b; less = l }))))

  unfoldable unjoined_dec : (u v : ℕ) → Dec (Unjoined t m x y u v)
  unfolding pair_dec joined_lawful
  unjoined_dec u v =
      given (pair_dec u v) (λ w. w.pair) (λ p.
      dite ((joined_lawful t).decided u v x y) (λ j. no (λ w. w.unjoined j)) (λ f. yes (record { pair = p; unjoined = f })))

  -- a pair that isn't joined is no pair of a gauge that has none
  joined_of_none : (u v n : ℕ) → v < n → None (Unjoined t m x y u) n → PairOf m u v → Joined t u v x y
  joined_of_none u v n l f p = dite ((joined_lawful t).decided u v x y) (λ j. j) (λ j. absurd (f.none v l (record { pair = p; unjoined = j })))

  module _ (g : ℕ) (known : (k : ℕ) → Member k m → k < g) where
    -- gauge u has a first partner that it isn't joined to
    abbrev Lacking : ℕ → Type 0
    Lacking u = First (Unjoined t m x y u) g

    pub none_lacking : (u : ℕ) → None (Unjoined t m x y u) g → Lacking u → ⊥
    none_lacking u f s = f.none s.number s.below s.holds

    unfoldable lacking_dec : (u : ℕ) → Dec (Lacking u)
    unfolding none_or_first unjoined_dec
    lacking_dec u = ⊎_elim (λ f. no (none_lacking u f)) yes (none_or_first (unjoined_dec u) g)

    joined_of : (u v : ℕ) → (Lacking u → ⊥) → PairOf m u v → Joined t u v x y
    joined_of u v f p = ⊎_elim (λ e. joined_of_none u v g (known v p.higher) e p) (λ s. absurd (f s)) (none_or_first (unjoined_dec u) g)

    pub all_joined : None Lacking g → (u v : ℕ) → PairOf m u v → Joined t u v x y
    all_joined f u v p = joined_of u v (f.none u (known u p.lower)) p

    pub first_unjoined : (s : First Lacking g) → FirstUnjoined t x y (PairOf m) s.number s.holds.number
    first_unjoined s =
        let w = s.holds in
        record {
          pair = w.holds.pair;
          unjoined = w.holds.unjoined;
          first = λ a b p before. ⊎_elim
              (λ l. joined_of a b (s.first.none a l) p)
              (λ e. subst (λ (n : ℕ). Joined t n b x y) (sym e.0)
              (joined_of_none s.number b w.number e.1 w.first (subst (λ (n : ℕ). PairOf m n b) e.0 p)))
              before;
        }

    -- every pair of a set of gauges below g is joined, or there is a first that isn't
    unfoldable pub joined_or_first : ((u v : ℕ) → PairOf m u v → Joined t u v x y) ⊎ ((u : ℕ) × (v : ℕ) × FirstUnjoined t x y (PairOf m) u v)
    unfolding none_or_first lacking_dec
    joined_or_first = ⊎_elim (λ f. inl (all_joined f)) (λ s. inr (s.number, s.holds.number, first_unjoined s)) (none_or_first lacking_dec g)

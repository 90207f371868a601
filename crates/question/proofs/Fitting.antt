-- The walks for a further gauge: over the members that it has to be joined to, and over the gauges that are no members, turn by turn. Assumes nothing.
use mathlib.Core.Logic.{⊎_elim}
use mathlib.Core.Path.{sym, subst}
use mathlib.Core.List.{List}
use Prim.Native.Nat.{ℕ, ◌-◌, ◌^◌, ◌≤◌, ◌<◌}
use native.Mathlib.Omega.{arith}
use lib.Bits.{bit_and, and_lt}
use lib.Pow.{ones_sub-lt}
use Rattle.gauges.specs.Sets.{Member, Below}
use Rattle.gauges.specs.Members.{Taken}
use Rattle.gauges.proofs.Taking.{passed_or_taken}
use Rattle.gauges.proofs.Laws.{without_in, without_left, without_right}
use Rattle.links.specs.Links.{Joined}
use Rattle.question.specs.Verdicts.{Fits, LowestFit}
use Rattle.question.specs.Walks.{Near}
use Rattle.question.proofs.Rests.{Rest, taken_in, lower_passed}

-- ---- the members of m, of which rest is left: gauge k is joined to those that are passed

pub record NearPassed (t : List ℕ) (m x y k rest : ℕ) : Type 0 where
  pub near : (u : ℕ) → Member u m → (Member u rest → ⊥) → Joined t u k x y

pub near_start : (t : List ℕ) (m x y k : ℕ) → NearPassed t m x y k m
near_start t m x y k = record { near = λ u h f. absurd (f h) }

pub near_next : {t : List ℕ} {m x y k rest u rest' : ℕ} → Taken rest u rest' → Joined t u k x y → NearPassed t m x y k rest → NearPassed t m x y k rest'
near_next {t} {x = x} {y = y} {k = k} T near N =
    record {
      near = λ j h f. ⊎_elim
          (N.near j h)
          (λ e. subst (λ (n : ℕ). Joined t n k x y) (sym e) near)
          (passed_or_taken T j f);
    }

pub near_end : {t : List ℕ} {m x y k rest : ℕ} → ((j : ℕ) → Member j rest → ⊥) → NearPassed t m x y k rest → Near t m x y k
near_end f N = record { near = λ u h. N.near u h (f u) }

-- one member that it is not joined to settles it
pub not_near : {t : List ℕ} {m x y k rest u rest' : ℕ} → Rest m rest → Taken rest u rest' → (Joined t u k x y → ⊥) → Near t m x y k → ⊥
not_near {u = u} R T f N = f (N.near u (taken_in R T))

-- ---- the gauges below g that are no members

-- the others are the gauges below g that are no members
pub record Others (g m others : ℕ) : Type 0 where
  pub fits : others < 2 ^ 64
  pub known : (k : ℕ) → Member k others → k < g
  pub further : (k : ℕ) → Member k others → Member k m → ⊥
  pub all : (k : ℕ) → k < g → (Member k m → ⊥) → Member k others

pub others_are : {g m b : ℕ} → g ≤ 64 → Below g b → b < 2 ^ 64 → m < 2 ^ 64 → Others g m (bit_and b ((2 ^ 64 - 1) - m))
others_are {m = m} {b = b} few B b-fits m-fits =
    record {
      fits = and_lt 64 b ((2 ^ 64 - 1) - m) b-fits (ones_sub-lt 64 m);
      known = λ k h. (B.just k (without_left b m k 64 h)).0;
      further = λ k h. without_right b m k 64 m-fits h;
      all = λ k h f. without_in b m k 64 b-fits m-fits (B.each k h (omega arith)) f;
    }

-- the others that are passed don't fit
pub record NonePassed (t : List ℕ) (m x y others rest : ℕ) : Type 0 where
  pub none : (k : ℕ) → Member k others → (Member k rest → ⊥) → Near t m x y k → ⊥

pub none_start : (t : List ℕ) (m x y others : ℕ) → NonePassed t m x y others others
none_start t m x y others = record { none = λ k h f. absurd (f h) }

pub none_next : {t : List ℕ} {m x y others rest k rest' : ℕ} → Taken rest k rest' → (Near t m x y k → ⊥) → NonePassed t m x y others rest → NonePassed t m x y others rest'
none_next {t} {m} {x} {y} T f N =
    record { none = λ j h p n. ⊎_elim (λ q. N.none j h q n) (λ e. f (subst (Near t m x y) e n)) (passed_or_taken T j p) }

module _ {t : List ℕ} {g m x y others rest : ℕ} (O : Others g m others) (R : Rest others rest) (N : NonePassed t m x y others rest) where
  -- the lowest that is left is the lowest that fits
  pub fit_found : {k rest' : ℕ} → Taken rest k rest' → Near t m x y k → LowestFit t g m x y k
  fit_found {k} T n =
      let h = taken_in R T in
      record {
        fits = record { known = O.known k h; further = O.further k h; near = n.near };
        first = λ j l F. N.none j (O.all j F.known F.further) (lower_passed R T j l) (record { near = F.near });
      }

  -- where nothing is left, none fits
  pub fit_none : ((j : ℕ) → Member j rest → ⊥) → (j : ℕ) → Fits t g m x y j → ⊥
  fit_none f j F = N.none j (O.all j F.known F.further) (f j) (record { near = F.near })

-- Lemma 3 of the paper over a lawful family: a group has a pair that is not joined from an hour earlier, and one that is not joined to an hour later. Assumes nothing.
use mathlib.Core.Path.{◌≡◌, subst}
use mathlib.Core.Logic.{⊎_elim, dite}
use Prim.Native.Nat.{ℕ, suc, ◌-◌}
use native.Mathlib.Decide.{dec_le}
use native.Mathlib.Omega.{arith}
use Rattle.cliques.specs.Families.{Family}
use Rattle.cliques.specs.Groups.{Row, Group}
use Rattle.cliques.proofs.Lawful.{Lawful}
use Rattle.cliques.proofs.Rows.{from_hour, upto_hour}
use Rattle.cliques.proofs.Members.{Pair}
use Rattle.cliques.proofs.Cliques.{joins_or_not, clique_pair, rejoined}
use Rattle.cliques.proofs.Local.{group_local}

module _ {J : Family} (L : Lawful J) where
  -- a group has a pair that is not joined to an hour later
  pub group_ends : {g : ℕ} {c : Row} → Group J g c → Pair c.members (λ u v. J u v c.begin (suc c.end) → ⊥)
  group_ends {g} {c} G =
      let q = G.clique in
      ⊎_elim
      (λ all. absurd ((group_local G).no_later (rejoined q (omega (arith, q.span)) all)))
      (λ p. p)
      (joins_or_not L g (upto_hour c (suc c.end)) q.known)

  -- and one that is not joined from an hour earlier, if there is an earlier hour
  pub group_begins : {g : ℕ} {c : Row} → Group J g c → Pair c.members (λ u v. (z : ℕ) → suc z ≡ c.begin → J u v z c.end → ⊥)
  group_begins {g} {c} G =
      let q = G.clique in
      let x = c.begin - 1 in
      dite (dec_le c.begin 0)
      (λ h. with_is (clique_pair q) (λ z e _. omega arith))
      (λ h.
      ⊎_elim
      (λ all. absurd ((group_local G).no_earlier x (omega arith) (rejoined q (omega (arith, q.span)) all)))
      (λ p. with_is p (λ z e j. p.is (subst (λ (z : ℕ). J p.one p.other z c.end) (omega arith) j)))
      (joins_or_not L g (from_hour c x) q.known))
    where
      with_is : {R S : ℕ → ℕ → Type 0} (p : Pair c.members R) → S p.one p.other → Pair c.members S
      with_is p s = record { one = p.one; other = p.other; less = p.less; one_in = p.one_in; other_in = p.other_in; is = s }

-- Demand 3 over families: how the groups, and the rows of the list, change as the family grows. Assumes nothing.
use mathlib.Core.Path.{sym, subst}
use mathlib.Core.Logic.{⊎_elim, dite}
use Prim.Native.Nat.{ℕ, ◌≤◌, ◌<◌}
use native.Mathlib.Decide.{dec_lt}
use native.Mathlib.Omega.{arith}
use lib.Count.{ones}
use Rattle.gauges.specs.Sets.{Member}
use Rattle.gauges.proofs.Laws.{two_members}
use Rattle.cliques.specs.Families.{Family}
use Rattle.cliques.specs.Groups.{Row, Clique, Inside, Strictly, Group}
use Rattle.cliques.specs.Lists.{InList, Complete}
use Rattle.cliques.proofs.Lawful.{Lawful}
use Rattle.cliques.proofs.Cliques.{Joins, Unjoined, joins_or_not, rejoined}
use Rattle.cliques.proofs.Above.{above}
use Rattle.cliques.proofs.OneList.{listed_sound}
use Rattle.cliques.proofs.SameFamily.{SubFamily, sub_clique}

-- The cliques of J at gauge count g are cliques of J' at g', and those of J' that J joins are cliques of J.
pub record Grows (J : Family) (g : ℕ) (J' : Family) (g' : ℕ) : Type 0 where
  pub kept : {c : Row} → Clique J g c → Clique J' g' c
  pub back : {d : Row} → Clique J' g' d → Joins J d → Clique J g d

-- so it is at one gauge count, if J' joins what J joins
pub grows : {J J' : Family} (g : ℕ) → SubFamily J J' → Grows J g J' g
grows g f = record { kept = sub_clique f; back = λ q all. rejoined q q.span all }

-- J joins gauges below g only
abbrev pub Known : Family → ℕ → Type 0
Known J g = (u v x y : ℕ) → u < v → x ≤ y → J u v x y → v < g

-- two gauges or more that it joins throughout a span are then a clique at g
pub joined_clique : {J : Family} {g : ℕ} {c : Row} → Known J g → c.begin ≤ c.end → 2 ≤ ones c.members → Joins J c → Clique J g c
joined_clique {g = g} {c = c} K span two all = record { span = span; known = known; two = two; joined = all }
  where
    known : (k : ℕ) → Member k c.members → k < g
    known k h =
        let p = two_members c.members two in
        dite (dec_lt k p.1)
        (λ l. omega (arith, K k p.1 _ _ l span (all k p.1 h p.4 l)))
        (λ f. let l : p.0 < k = omega (arith, p.2) in K p.0 k _ _ l span (all p.0 k p.3 h l))

-- so it is at any two gauge counts, if besides each family joins gauges below its own only
pub grows_known : {J J' : Family} {g g' : ℕ} → SubFamily J J' → Known J g → Known J' g' → Grows J g J' g'
grows_known f K K' =
    record {
      kept = λ q. joined_clique K' q.span q.two (sub_clique f q).joined;
      back = λ q all. joined_clique K q.span q.two all;
    }

module _ {J J' : Family} {g g' : ℕ} (N : Grows J g J' g') where
  -- each group of the first family lies inside one of the second
  pub old_inside : {c : Row} → Lawful J' → Group J g c → (d : Row) × Group J' g' d × Inside c d
  old_inside L' G = above L' (N.kept G.clique)

  -- a group of the second family only has a pair that the first does not join throughout its span
  pub new_pair : {d : Row} → Lawful J → Group J' g' d → (Group J g d → ⊥) → Unjoined J d
  new_pair {d} L G f =
      ⊎_elim
      (λ all. absurd (f (record { clique = N.back G.clique all; maximal = λ e q s. G.maximal e (N.kept q) s })))
      (λ p. p)
      (joins_or_not L g' d G.clique.known)

  -- a group of the first family only lies strictly inside a group of the second only
  pub lost_inside : {c : Row} → Lawful J' → Group J g c → (Group J' g' c → ⊥) → (d : Row) × Group J' g' d × (Group J g d → ⊥) × Strictly c d
  lost_inside {c} L' G f =
      let r = old_inside L' G in
      let s : Strictly c r.0 = record { inside = r.2; differ = λ e. f (subst (λ (x : Row). Group J' g' x) (sym e) r.1) } in
      (r.0, r.1, λ H. G.maximal r.0 H.clique s, s)

  module _ {rows rows' : ℕ → Row} {k k' : ℕ} (C : Complete J g rows k) (C' : Complete J' g' rows' k') where
    -- of the complete lists: each row of the first lies inside a row of the second
    pub old_rows_inside : {c : Row} → Lawful J' → InList rows k c → (d : Row) × InList rows' k' d × Inside c d
    old_rows_inside L' s = let r = old_inside L' (listed_sound C s) in (r.0, C'.complete r.0 r.1, r.2)

    -- a row of the second only has a pair that the first family does not join throughout its span
    pub new_rows_pair : {d : Row} → Lawful J → InList rows' k' d → (InList rows k d → ⊥) → Unjoined J d
    new_rows_pair {d} L s f = new_pair L (listed_sound C' s) (λ G. f (C.complete d G))

    -- a row of the first only lies strictly inside a row of the second only
    pub lost_rows_inside : {c : Row} → Lawful J' → InList rows k c → (InList rows' k' c → ⊥) → (d : Row) × InList rows' k' d × (InList rows k d → ⊥) × Strictly c d
    lost_rows_inside {c} L' s f =
        let r = lost_inside L' (listed_sound C s) (λ G. f (C'.complete c G)) in
        (r.0, C'.complete r.0 r.1, λ t. r.2 (listed_sound C t), r.3)

-- Demand 3. Take two accepted tables, the second holding every link of the first, and both lists complete. Each group of the first list lies inside one of the
-- second. A group only in the second has a pair that the first table doesn't join throughout its span. A group only in the first lies strictly inside such a
-- new one. It is stated over the lists of demand 2: the buffers that `list` leaves. Assumes nothing.
use mathlib.Core.Path.{◌≡◌}
use mathlib.Core.List.{List}
use Prim.Native.Nat.{ℕ, ◌<◌}
use Rattle.gauges.specs.Sets.{Member}
use Rattle.links.specs.Links.{Joined, Accepted, Extends}
use Rattle.cliques.specs.Groups.{Row, Inside, Strictly}
use Rattle.cliques.specs.Lists.{InList}
use Rattle.cliques.specs.Buffers.{row}
use Rattle.groups.specs.Replies.{Listed, Listing, groups, outcome_of}
use Rattle.cliques.proofs.Tables.{further_old, further_new, further_lost}
use Rattle.demands.proofs.Demand2.{kept}

-- two gauges of c that the table t does not join throughout its span
pub record NotJoined (t : List ℕ) (c : Row) : Type 0 where
  pub one : ℕ
  pub other : ℕ
  pub less : one < other
  pub one_in : Member one c.members
  pub other_in : Member other c.members
  pub apart : Joined t one other c.begin c.end → ⊥

-- t and t' are accepted, t' holds every link of t; their lists have k and k' rows
module _ {t t' : List ℕ} {g g' : ℕ} (A : Accepted t g) (A' : Accepted t' g') (E : Extends t t')
    {before before' after after' : List ℕ} {r r' : Listed} (L : Listing t g before r after) (L' : Listing t' g' before' r' after')
    {k k' : ℕ} (e : outcome_of r ≡ groups k) (e' : outcome_of r' ≡ groups k') where
  -- Each group of the first list lies inside one of the second.
  pub each_lies_inside : {c : Row} → InList (row after) k c → (d : Row) × InList (row after') k' d × Inside c d
  each_lies_inside = further_old A A' E (kept L e).list (kept L' e').list

  -- A group only in the second has a pair that the first table doesn't join throughout its span.
  pub new_has_a_new_pair : {d : Row} → InList (row after') k' d → (InList (row after) k d → ⊥) → NotJoined t d
  new_has_a_new_pair i n =
      let p = further_new A A' E (kept L e).list (kept L' e').list i n in
      record { one = p.one; other = p.other; less = p.less; one_in = p.one_in; other_in = p.other_in; apart = p.is }

  -- A group only in the first lies strictly inside such a new one.
  pub lost_lies_in_a_new : {c : Row} → InList (row after) k c → (InList (row after') k' c → ⊥) → (d : Row) × InList (row after') k' d × (InList (row after) k d → ⊥) × Strictly c d
  lost_lies_in_a_new = further_lost A A' E (kept L e).list (kept L' e').list

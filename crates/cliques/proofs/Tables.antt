-- Tables of links: their family is lawful and finite, so the list of their groups is computed; the links in another order, or with their two gauges exchanged, give the same list;
-- and demand 3 for further links. Assumes nothing.
use mathlib.Core.List.{List}
use mathlib.Core.Path.{subst}
use Prim.Native.Nat.{ℕ, ◌<◌}
use lib.ListN.{length}
use Rattle.links.specs.Links.{Of, in_order, turned, Joined, Accepted, Rearranged, Extends}
use Rattle.links.proofs.Orders.{rearranged_sym}
use Rattle.links.proofs.JoinedLaws.{joined_rearranged, joined_extends}
use Rattle.cliques.specs.Groups.{Row, Inside, Strictly, Group}
use Rattle.cliques.specs.Lists.{InList, Complete}
use Rattle.cliques.proofs.Lawful.{Lawful, Finite}
use Rattle.cliques.proofs.Cliques.{Unjoined}
use Rattle.cliques.proofs.SameFamily.{SubFamily, same_groups, same_complete}
use Rattle.cliques.proofs.Growth.{Grows, Known, grows_known, old_rows_inside, new_rows_pair, lost_rows_inside}
use Rattle.cliques.proofs.RowLists.{row_at}
use Rattle.cliques.proofs.Reference.{list_of, list_complete}
use Rattle.cliques.proofs.CoveredSpans.{covered_lawful, covered_finite}

-- ---- the family, and its list

-- the family of a table is lawful, whatever the numbers
unfoldable pub joined_lawful : (t : List ℕ) → Lawful (Joined t)
unfolding covered_lawful
joined_lawful t = covered_lawful t

-- and finite
unfoldable pub joined_finite : (t : List ℕ) → Finite (Joined t)
unfolding covered_finite
joined_finite t = covered_finite t

-- the rows of a table's groups in order, by computing
unfoldable pub table_rows : List ℕ → ℕ → List Row
unfolding list_of joined_lawful joined_finite
table_rows t g = list_of (joined_lawful t) (joined_finite t) g

-- they are the complete list
pub table_complete : (t : List ℕ) (g : ℕ) → Complete (Joined t) g (row_at (table_rows t g)) (length (table_rows t g))
unfolding table_rows
table_complete t g = list_complete (joined_lawful t) (joined_finite t) g

-- ---- the links in another order, and their gauges exchanged

-- they give the same family, ..
pub rearranged_family : {t t' : List ℕ} → Rearranged t t' → SubFamily (Joined t) (Joined t')
rearranged_family R u v x y l s j = joined_rearranged R j

module _ {t t' : List ℕ} (R : Rearranged t t') where
  -- the same groups, ..
  pub rearranged_groups : {g : ℕ} {c : Row} → Group (Joined t) g c → Group (Joined t') g c
  rearranged_groups G = same_groups (rearranged_family R) (rearranged_family (rearranged_sym R)) G

  module _ {g k : ℕ} {rows : ℕ → Row} (C : Complete (Joined t) g rows k) where
    -- and the same complete list
    pub rearranged_complete : Complete (Joined t') g rows k
    rearranged_complete = same_complete (rearranged_family R) (rearranged_family (rearranged_sym R)) C

-- ---- further links

-- they give a larger family
pub extended_family : {t t' : List ℕ} → Extends t t' → SubFamily (Joined t) (Joined t')
extended_family E u v x y l s j = joined_extends E j

-- an accepted table joins gauges below its gauge count only
pub joined_known : {t : List ℕ} {g : ℕ} → Accepted t g → Known (Joined t) g
joined_known {t} {g} A u v x y l s j = go j.covers.pair
  where
    go : Of t j.link u v → v < g
    go (in_order p q) = subst (λ (n : ℕ). n < g) q (A.known_other j.link j.covers.there)
    go (turned p q) = subst (λ (n : ℕ). n < g) p (A.known_one j.link j.covers.there)

module _ {t t' : List ℕ} {g g' : ℕ} (A : Accepted t g) (A' : Accepted t' g') (E : Extends t t') where
  -- so the cliques of a table are cliques with further links too, whatever the two gauge counts
  pub table_grows : Grows (Joined t) g (Joined t') g'
  table_grows = grows_known (extended_family E) (joined_known A) (joined_known A')

  module _ {rows rows' : ℕ → Row} {k k' : ℕ} (C : Complete (Joined t) g rows k) (C' : Complete (Joined t') g' rows' k') where
    -- demand 3: each group of the first list lies inside one of the second,
    pub further_old : {c : Row} → InList rows k c → (d : Row) × InList rows' k' d × Inside c d
    further_old s = old_rows_inside table_grows C C' (joined_lawful t') s

    -- a group only in the second has a pair that the first table does not join throughout its span,
    pub further_new : {d : Row} → InList rows' k' d → (InList rows k d → ⊥) → Unjoined (Joined t) d
    further_new s f = new_rows_pair table_grows C C' (joined_lawful t) s f

    -- and a group only in the first lies strictly inside one only in the second
    pub further_lost : {c : Row} → InList rows k c → (InList rows' k' c → ⊥) → (d : Row) × InList rows' k' d × (InList rows k d → ⊥) × Strictly c d
    further_lost s f = lost_rows_inside table_grows C C' (joined_lawful t') s f

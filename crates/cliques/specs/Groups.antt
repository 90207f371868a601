-- Cliques and groups, in the words of document 01, over a family of joined spans. Assumes nothing: these are definitions.
use Rattle.std.specs.Prelude.{◌≡◌, ℕ, ◌≤◌, ◌<◌}
use Rattle.std.specs.Int.Count.{ones}
use Rattle.gauges.specs.Sets.{Member, Within}
use Rattle.cliques.specs.Families.{Family}

-- a set of gauges and a span, as the three numbers of a row: bit k of members is set exactly if gauge k belongs
pub record Row : Type 0 where
  pub begin : ℕ
  pub end : ℕ
  pub members : ℕ

-- A clique is a set of at least two gauges and a span [x, y], x ≤ y, with every pair of the set joined throughout it. Gauges are numbered below the gauge count g.
pub record Clique (J : Family) (g : ℕ) (c : Row) : Type 0 where
  pub span : c.begin ≤ c.end
  pub known : (k : ℕ) → Member k c.members → k < g
  pub two : 2 ≤ ones c.members
  pub joined : (u v : ℕ) → Member u c.members → Member v c.members → u < v → J u v c.begin c.end

-- One clique lies inside another if its gauges are among the other's and its span is within the other's.
pub record Inside (c d : Row) : Type 0 where
  pub gauges : Within c.members d.members
  pub from : d.begin ≤ c.begin
  pub upto : c.end ≤ d.end

-- It lies strictly inside if the two also differ.
pub record Strictly (c d : Row) : Type 0 where
  pub inside : Inside c d
  pub differ : c ≡ d → ⊥

-- A clique is maximal, and is called a group, if it lies strictly inside no clique.
pub record Group (J : Family) (g : ℕ) (c : Row) : Type 0 where
  pub clique : Clique J g c
  pub maximal : (d : Row) → Clique J g d → Strictly c d → ⊥

-- The row is a group, maximal among all cliques, and has at least so many gauges.
pub record Shown (J : Family) (g least : ℕ) (c : Row) : Type 0 where
  pub group : Group J g c
  pub large : least ≤ ones c.members

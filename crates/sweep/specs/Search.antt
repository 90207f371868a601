-- The search for the maximal sets of one span, for the contracts of internal functions. Assumes nothing: these are definitions.
use Rattle.std.specs.Prelude.{◌⊎◌, ◌≡◌, List, ℕ, ◌≤◌, ◌<◌}
use Rattle.std.specs.Int.Count.{ones}
use Rattle.gauges.specs.Sets.{Member, Within}
use Rattle.cliques.specs.Groups.{Row}
use Rattle.sweep.specs.Store.{Held, Loose}
use Rattle.sweep.specs.Near.{Graph, Linked, CliqueIn, HasPair}
use Rattle.sweep.specs.declared.search.Sought.{Sought}

-- what is asked of a set beside being maximal: at least so many gauges, a pair whose run begins at the span's begin, and one whose run ends at its end.
-- A set that lacks one of these has no part that has all.
pub record Worth (s : Sought) (c : ℕ) : Type 0 where
  pub large : s.least ≤ ones c
  pub begun : HasPair s.fresh.now.near c
  pub ended : HasPair s.ending.now.near c

-- what a call of the search is about: r is the clique so far, p the gauges that may join it, q those that could and may not, since the sets with them are
-- found; each of p and q is linked to all of r
pub record Node (adj : List ℕ) (r p q : ℕ) : Type 0 where
  pub clique : CliqueIn adj r
  pub linked : (v : ℕ) → Member v p ⊎ Member v q → Linked adj v r

-- c is one of the maximal sets below the node: it holds r, its other gauges are of p, and no gauge of p or q can be added to it
pub record Best (adj : List ℕ) (r p q c : ℕ) : Type 0 where
  pub clique : CliqueIn adj c
  pub holds : Within r c
  pub others : (v : ℕ) → Member v c → Member v r ⊎ Member v p
  pub maximal : (v : ℕ) → Member v p ⊎ Member v q → Linked adj v c → ⊥

-- the row has the span that is sought, and its set is one of the maximal ones below the node and is worth showing
pub record Wanted (adj : List ℕ) (s : Sought) (r p q : ℕ) (c : Row) : Type 0 where
  pub from : c.begin ≡ s.begin
  pub upto : c.end ≡ s.end
  pub best : Best adj r p q c.members
  pub worth : Worth s c.members

-- what a call of the search takes; no row that it wants is found yet
pub record Ready (adj : List ℕ) (s : Sought) (r p q : ℕ) (out : List ℕ) (n : ℕ) : Type 0 where
  pub graph : Graph adj
  pub node : Node adj r p q
  pub loose : Loose out n
  pub absent : (c : Row) → Wanted adj s r p q c → Held out n c → ⊥

-- k is a gauge of p or q
pub record PivotOf (p q k : ℕ) : Type 0 where
  pub gauge : k < 64
  pub live : Member k p ⊎ Member k q

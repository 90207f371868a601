-- Graphs of gauges, for the contracts of internal functions. A graph is the list of its 64 rows: row i is the set of the gauges that gauge i is linked to.
-- Assumes nothing: these are definitions.
use Rattle.std.specs.Prelude.{◌≡◌, List, ℕ, length, get_or}
use Rattle.gauges.specs.Sets.{Member}

-- the gauges that gauge i is linked to
abbrev pub near : List ℕ → ℕ → ℕ
near adj i = get_or adj i 0

-- there is a row for each of the 64 gauges, links go both ways, and no gauge is linked to itself
pub record Graph (adj : List ℕ) : Type 0 where
  pub sized : length adj ≡ 64
  pub symmetric : (i j : ℕ) → Member j (near adj i) → Member i (near adj j)
  pub loopless : (i : ℕ) → Member i (near adj i) → ⊥

-- gauge v is linked to each gauge of c
pub record Linked (adj : List ℕ) (v c : ℕ) : Type 0 where
  pub all : (i : ℕ) → Member i c → Member v (near adj i)

-- any two gauges of c are linked
pub record CliqueIn (adj : List ℕ) (c : ℕ) : Type 0 where
  pub pairs : (i j : ℕ) → Member i c → Member j c → (i ≡ j → ⊥) → Member j (near adj i)

-- two gauges of c are linked in the graph g
pub record HasPair (g : List ℕ) (c : ℕ) : Type 0 where
  pub one : ℕ
  pub other : ℕ
  pub one_in : Member one c
  pub other_in : Member other c
  pub linked : Member other (near g one)

-- tops is a set that has every gauge that is linked in the graph g at all
pub record Tops (g : List ℕ) (tops : ℕ) : Type 0 where
  pub sized : length g ≡ 64
  pub has : (i j : ℕ) → Member j (near g i) → Member i tops

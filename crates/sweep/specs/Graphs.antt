-- Graphs of gauges as the runs of a line give them, for the contracts of internal functions. Assumes nothing: these are definitions.
use Rattle.std.specs.Prelude.{◌⊎◌, ◌≡◌, List, ℕ, ◌≤◌, ◌<◌, length}
use Rattle.std.specs.List.{All, Contains}
use Rattle.gauges.specs.Sets.{Member}
use Rattle.links.specs.Links.{Of, ends, one, other, count}
use Rattle.sweep.specs.Near.{near}
use Rattle.sweep.specs.declared.graph.Inner.{Inner}
use Rattle.sweep.specs.declared.graph.Inner.TheVariants.{NoRun, OneRun}

-- {i, j} is the pair {u, v}
pub data SamePair (u v i j : ℕ) : Type 0 where
  in_order : i ≡ u → j ≡ v → SamePair u v i j
  turned : i ≡ v → j ≡ u → SamePair u v i j

-- u and v are two of the 64 gauges
pub record TwoGauges (u v : ℕ) : Type 0 where
  pub one : u < 64
  pub other : v < 64
  pub two : u ≡ v → ⊥

-- adj' is the graph adj with the gauges linked that R relates
pub record Won (adj adj' : List ℕ) (R : ℕ → ℕ → Type 0) : Type 0 where
  pub size : length adj' ≡ length adj
  pub kept : (i j : ℕ) → Member j (near adj i) → Member j (near adj' i)
  pub new : (i j : ℕ) → R i j → Member j (near adj' i)
  pub only : (i j : ℕ) → Member j (near adj' i) → Member j (near adj i) ⊎ R i j

-- adj' is the graph adj with the gauges not linked that R relates
pub record Lost (adj adj' : List ℕ) (R : ℕ → ℕ → Type 0) : Type 0 where
  pub size : length adj' ≡ length adj
  pub kept : (i j : ℕ) → Member j (near adj i) → (R i j → ⊥) → Member j (near adj' i)
  pub gone : (i j : ℕ) → R i j → Member j (near adj' i) → ⊥
  pub only : (i j : ℕ) → Member j (near adj' i) → Member j (near adj i)

-- the graph adj links just the gauges that R relates
pub record Shows (adj : List ℕ) (R : ℕ → ℕ → Type 0) : Type 0 where
  pub sized : length adj ≡ 64
  pub sound : (i j : ℕ) → Member j (near adj i) → R i j
  pub full : (i j : ℕ) → R i j → Member j (near adj i)

-- run r is one of the table, of two gauges below 64
pub record Gauged (t : List ℕ) (r : ℕ) : Type 0 where
  pub known : r < count t
  pub one_below : one t r < 64
  pub other_below : other t r < 64
  pub two : one t r ≡ other t r → ⊥

-- each run of this part of a line is so
pub record Drawable (t part : List ℕ) : Type 0 where
  pub each : All (Gauged t) part

-- one of the runs is of gauges u and v
pub record Drawn (t part : List ℕ) (u v : ℕ) : Type 0 where
  pub run : ℕ
  pub there : Contains part run
  pub pair : Of t run u v

-- both gauges of run r are in the set
pub record PairIn (t : List ℕ) (r set : ℕ) : Type 0 where
  pub one_in : Member (one t r) set
  pub other_in : Member (other t r) set

-- both gauges of each of the runs are in the set
pub record BothIn (t part : List ℕ) (set : ℕ) : Type 0 where
  pub each : All (λ (r : ℕ). PairIn t r set) part

-- the set holds every gauge that is linked to both gauges of run r
pub record Around (t adj : List ℕ) (r set : ℕ) : Type 0 where
  pub further : (v : ℕ) → Member v (near adj (one t r)) → Member v (near adj (other t r)) → Member v set

-- the set holds both gauges of each of the runs, and every gauge that is linked to both
pub record Reaches (t part adj : List ℕ) (set : ℕ) : Type 0 where
  pub both : BothIn t part set
  pub around : All (λ (r : ℕ). Around t adj r set) part

-- none of the runs ends after hour x
pub record LastEnd (t part : List ℕ) (x : ℕ) : Type 0 where
  pub bound : All (λ (r : ℕ). ends t r ≤ x) part

-- of the runs, r alone has both gauges in the set
pub record Alone (t part : List ℕ) (set r : ℕ) : Type 0 where
  pub there : Contains part r
  pub inside : PairIn t r set
  pub only : All (λ (s : ℕ). PairIn t s set → s ≡ r) part

-- which of the runs have both gauges in the set: none, one, which is then named, or more
pub record Counted (t part : List ℕ) (set : ℕ) (inner : Inner) : Type 0 where
  pub none : inner ≡ NoRun → All (λ (r : ℕ). PairIn t r set → ⊥) part
  pub alone : (r : ℕ) → inner ≡ OneRun r → Alone t part set r

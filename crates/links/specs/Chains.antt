-- The walk for reason 8, for the contracts of internal functions: chains of links of the same pair. A number in a chain is one up: 0 is no link, and r + 1 is link r.
-- Assumes nothing: these are definitions.
use Rattle.std.specs.Prelude.{◌≡◌, List, Option, Some, None, ℕ, ◌-◌, ◌+◌, ◌*◌, ◌≤◌, ◌<◌, min, max, length, get_or}
use Rattle.links.specs.declared.chains.Chains.{Chains}
use Rattle.links.specs.Links.{count, one, other, Clash}

-- the place of the pair of gauges u and v, in either order: 64 to a row, and the lower gauge is the row
abbrev pub pair_at : ℕ → ℕ → ℕ
pair_at u v = 64 * min u v + max u v

-- the place of the pair of link i
abbrev pub pair_of : List ℕ → ℕ → ℕ
pair_of t i = pair_at (one t i) (other t i)

-- the gauges of link i are below 64, so that no other pair has the place of theirs
pub record Placed (t : List ℕ) (i : ℕ) : Type 0 where
  pub one_below : one t i < 64
  pub other_below : other t i < 64

-- r is the number, one up, of the latest of the links below n whose pair has place p, or 0 if there is none
pub record Latest (t : List ℕ) (p n r : ℕ) : Type 0 where
  pub bound : r ≤ n
  pub pair : 0 < r → pair_of t (r - 1) ≡ p
  pub none : (m : ℕ) → r ≤ m → m < n → pair_of t m ≡ p → ⊥

-- the links below n are in chains
pub record Chained (t : List ℕ) (chains : Chains) (n : ℕ) : Type 0 where
  pub few : count t ≤ 2048
  pub pairs : length chains.latest ≡ 4096
  pub places : length chains.previous ≡ 2048
  pub placed : (m : ℕ) → m < n → Placed t m
  pub newest : (p : ℕ) → p < 4096 → Latest t p n (get_or chains.latest p 0)
  pub older : (m : ℕ) → m < n → Latest t (pair_of t m) m (get_or chains.previous m 0)

-- the links below i are in chains, and link i, which is to be held against its pair's or to be entered, has gauges below 64
pub record Next (t : List ℕ) (chains : Chains) (i : ℕ) : Type 0 where
  pub there : i < count t
  pub placed : Placed t i
  pub chained : Chained t chains i

-- the links below i are in chains, and link i is the next to be checked, with at most 64 gauges
pub record AtLink (t : List ℕ) (g : ℕ) (chains : Chains) (i : ℕ) : Type 0 where
  pub there : i < count t
  pub few_gauges : g ≤ 64
  pub chained : Chained t chains i

-- a link below i that is of the same two gauges as link i and shares an hour with it, or none if there is none
abbrev pub EarlierClash : List ℕ → ℕ → Option ℕ → Type 0
EarlierClash t i (Some j) = (j < i) × Clash t j i
EarlierClash t i None = (j : ℕ) → j < i → Clash t j i → ⊥

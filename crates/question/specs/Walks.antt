-- What the walks over pairs and over further gauges find. Assumes nothing: these are definitions.
use Rattle.std.specs.Prelude.{◌≡◌, List, ℕ, ◌^◌, ◌≤◌, ◌<◌, Option, Some, None, Result, Ok, Err}
use Rattle.gauges.specs.Sets.{Member}
use Rattle.links.specs.Links.{Joined, Apart}
use Rattle.question.specs.Verdicts.{FirstUnjoined, Fits, LowestFit}
use Rattle.question.specs.declared.reach.Hours.{Hours}
use Rattle.question.specs.declared.reach.Unjoined.{Unjoined}

-- what the walks ask: the links of one pair share no hour, and x to y is a span
pub record Walkable (t : List ℕ) (x y : ℕ) : Type 0 where
  pub apart : Apart t
  pub span : x ≤ y

-- the one pair u, v
pub record Just (u v a b : ℕ) : Type 0 where
  pub lower : a ≡ u
  pub higher : b ≡ v

-- the pairs of gauge u with each of the others
pub record Beside (u others a b : ℕ) : Type 0 where
  pub lower : a ≡ u
  pub higher : Member b others

-- The pairs P are joined from an hour upto another, which span [x, y], and from no earlier hour to y, nor from x to a later hour that is a 64-bit number.
pub record Common (t : List ℕ) (x y : ℕ) (P : ℕ → ℕ → Type 0) (from upto : ℕ) : Type 0 where
  pub begun : from ≤ x
  pub lasts : y ≤ upto
  pub joined : (a b : ℕ) → P a b → Joined t a b from upto
  pub no_sooner : (z : ℕ) → z < from → ((a b : ℕ) → P a b → Joined t a b z y) → ⊥
  pub no_longer : (z : ℕ) → upto < z → z < 2 ^ 64 → ((a b : ℕ) → P a b → Joined t a b x z) → ⊥

-- of the pairs P, the first that isn't joined throughout, or the hours that they have in common
abbrev pub ReachOf : List ℕ → ℕ → ℕ → (ℕ → ℕ → Type 0) → Result Hours Unjoined → Type 0
ReachOf t x y P (Err w) = FirstUnjoined t x y P w.lower w.higher
ReachOf t x y P (Ok h) = Common t x y P h.from h.upto

-- gauge k is joined to every member throughout
pub record Near (t : List ℕ) (m x y k : ℕ) : Type 0 where
  pub near : (u : ℕ) → Member u m → Joined t u k x y

-- r is the lowest gauge that fits, or none fits
abbrev pub LowestOrNone : List ℕ → ℕ → ℕ → ℕ → ℕ → Option ℕ → Type 0
LowestOrNone t g m x y (Some k) = LowestFit t g m x y k
LowestOrNone t g m x y None = (j : ℕ) → Fits t g m x y j → ⊥

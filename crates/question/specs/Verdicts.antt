-- The verdicts of the question about one group, in the words of document 01. The question is about members m over the span [x, y]. Assumes nothing: these are definitions.
use Rattle.std.specs.Prelude.{◌⊎◌, ◌≡◌, List, [], ◌∷◌, ℕ, ◌<◌}
use Rattle.gauges.specs.Sets.{Member}
use Rattle.links.specs.Links.{Joined}
use Rattle.cliques.specs.Groups.{Row, Clique, Group}

-- members m over the span [x, y], as a row
abbrev pub spanned : ℕ → ℕ → ℕ → Row
spanned m x y = record { begin = x; end = y; members = m }

-- ---- 1. a pair isn't joined throughout: the pair, lower gauge first, of smallest lower and then smallest higher number

-- u and v are a pair of members, the lower gauge first
pub record PairOf (m u v : ℕ) : Type 0 where
  pub lower : Member u m
  pub higher : Member v m
  pub less : u < v

-- pair a, b comes before pair u, v: by the lower gauge, then by the higher
abbrev pub Before : ℕ → ℕ → ℕ → ℕ → Type 0
Before a b u v = (a < u) ⊎ ((a ≡ u) × (b < v))

-- u and v are the first of the pairs P that isn't joined throughout
pub record FirstUnjoined (t : List ℕ) (x y : ℕ) (P : ℕ → ℕ → Type 0) (u v : ℕ) : Type 0 where
  pub pair : P u v
  pub unjoined : Joined t u v x y → ⊥
  pub first : (a b : ℕ) → P a b → Before a b u v → Joined t a b x y

-- ---- 2. the span can begin earlier: the earliest begin with this end

pub record EarliestBegin (t : List ℕ) (g m x y b : ℕ) : Type 0 where
  pub earlier : b < x
  pub clique : Clique (Joined t) g (spanned m b y)
  pub first : (z : ℕ) → z < b → Clique (Joined t) g (spanned m z y) → ⊥

-- ---- 3. it can end later: the latest end with this begin

pub record LatestEnd (t : List ℕ) (g m x y e : ℕ) : Type 0 where
  pub later : y < e
  pub clique : Clique (Joined t) g (spanned m x e)
  pub last : (z : ℕ) → e < z → Clique (Joined t) g (spanned m x z) → ⊥

-- ---- 4. a further gauge fits: the lowest

-- gauge k fits: it is no member, and joined to every member throughout
pub record Fits (t : List ℕ) (g m x y k : ℕ) : Type 0 where
  pub known : k < g
  pub further : Member k m → ⊥
  pub near : (u : ℕ) → Member u m → Joined t u k x y

pub record LowestFit (t : List ℕ) (g m x y k : ℕ) : Type 0 where
  pub fits : Fits t g m x y k
  pub first : (j : ℕ) → j < k → Fits t g m x y j → ⊥

-- ---- the first that holds

-- verdict n holds, with its values
pub data Holds (t : List ℕ) (g m x y : ℕ) : ℕ → List ℕ → Type 0 where
  unjoined : {u v : ℕ} → FirstUnjoined t x y (PairOf m) u v → Holds t g m x y 1 (u ∷ v ∷ [])
  earlier : {b : ℕ} → EarliestBegin t g m x y b → Holds t g m x y 2 (b ∷ [])
  later : {e : ℕ} → LatestEnd t g m x y e → Holds t g m x y 3 (e ∷ [])
  further : {k : ℕ} → LowestFit t g m x y k → Holds t g m x y 4 (k ∷ [])
  a_group : Group (Joined t) g (spanned m x y) → Holds t g m x y 5 []

-- verdict n is the first that holds
pub record FirstVerdict (t : List ℕ) (g m x y n : ℕ) (values : List ℕ) : Type 0 where
  pub holds : Holds t g m x y n values
  pub first : (n' : ℕ) (values' : List ℕ) → n' < n → Holds t g m x y n' values' → ⊥

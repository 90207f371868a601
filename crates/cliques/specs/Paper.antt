-- Link streams and their maximal cliques as document 000 defines them (its section 1), over sets of nodes instead of masks, and the family of a link stream.
-- Assumes nothing: these are definitions.
use Rattle.std.specs.Prelude.{Bool, true, ◌≡◌, ℕ, ◌≤◌, ◌<◌}
use Rattle.gauges.specs.Sets.{set_of}
use Rattle.cliques.specs.Groups.{Row}

-- A link stream (T, V, E): T is the hours 0 to last, V the numbers below nodes, E ⊆ T × T × V × V, and link b e u v is that (b, e, u, v) is in E.
pub record Stream : Type 1 where
  pub last : ℕ
  pub nodes : ℕ
  pub link : ℕ → ℕ → ℕ → ℕ → Type 0
  pub forward : {b e u v : ℕ} → link b e u v → b ≤ e
  pub in_time : {b e u v : ℕ} → link b e u v → e ≤ last
  pub known_one : {b e u v : ℕ} → link b e u v → u < nodes
  pub known_other : {b e u v : ℕ} → link b e u v → v < nodes

-- There is no distinction between (b, e, u, v) and (b, e, v, u).
pub record Undirected (L : Stream) : Type 0 where
  pub turned : {b e u v : ℕ} → L.link b e u v → L.link b e v u

-- It is simple if u ≠ v for each link (b, e, u, v), and no two links (b, e, u, v) and (b', e', u, v) share an hour: those that do are one link.
pub record Simple (L : Stream) : Type 0 where
  pub differ : {b e u v : ℕ} → L.link b e u v → u ≡ v → ⊥
  pub apart : {b e b' e' u v : ℕ} → L.link b e u v → L.link b' e' u v → (h : ℕ) → b ≤ h → h ≤ e → b' ≤ h → h ≤ e' → (b ≡ b') × (e ≡ e')

-- A set X of nodes and an interval [x, y]. The set holds k if it says true of k.
pub record Timed : Type 0 where
  pub set : ℕ → Bool
  pub from : ℕ
  pub upto : ℕ

-- there is a link (b, e, u, v) in E such that [x, y] ⊆ [b, e]
pub record Linked (L : Stream) (u v x y : ℕ) : Type 0 where
  pub b : ℕ
  pub e : ℕ
  pub there : L.link b e u v
  pub begun : b ≤ x
  pub lasts : y ≤ e

-- (X, [x, y]) is a clique: X ⊆ V, [x, y] ⊆ T, and for all {u, v} ⊆ X there is such a link.
pub record StreamClique (L : Stream) (C : Timed) : Type 0 where
  pub nodes : (u : ℕ) → C.set u ≡ true → u < L.nodes
  pub span : C.from ≤ C.upto
  pub in_time : C.upto ≤ L.last
  pub linked : (u v : ℕ) → C.set u ≡ true → C.set v ≡ true → (u ≡ v → ⊥) → Linked L u v C.from C.upto

-- X ⊆ X' and [x, y] ⊆ [x', y']
pub record Contained (C C' : Timed) : Type 0 where
  pub nodes : (u : ℕ) → C.set u ≡ true → C'.set u ≡ true
  pub from : C'.from ≤ C.from
  pub upto : C.upto ≤ C'.upto

-- C = C': the sets have the same nodes, and the intervals are equal
pub record Same (C C' : Timed) : Type 0 where
  pub nodes : (u : ℕ) → C.set u ≡ C'.set u
  pub from : C.from ≡ C'.from
  pub upto : C.upto ≡ C'.upto

-- A clique C is maximal if there is no other clique C' such that C' ≠ C, X ⊆ X' and [x, y] ⊆ [x', y'].
pub record StreamMaximal (L : Stream) (C : Timed) : Type 0 where
  pub clique : StreamClique L C
  pub maximal : (C' : Timed) → StreamClique L C' → (Same C C' → ⊥) → Contained C C' → ⊥

-- it involves at least two nodes
pub record TwoNodes (C : Timed) : Type 0 where
  pub one : ℕ
  pub other : ℕ
  pub differ : one ≡ other → ⊥
  pub one_in : C.set one ≡ true
  pub other_in : C.set other ≡ true

-- the set and the interval of a row
abbrev pub timed : Row → Timed
timed c = record { set = set_of c.members; from = c.begin; upto = c.end }

-- the family of a link stream: nodes u and v are joined throughout [x, y] if one link of the two covers it
pub record FamilyOf (L : Stream) (u v x y : ℕ) : Type 0 where
  pub span : x ≤ y
  pub linked : Linked L u v x y

-- The groups of one span, of one begin, and of a whole table, for the contracts of internal functions. Assumes nothing: these are definitions.
use Rattle.std.specs.Prelude.{◌≡◌, List, ℕ, ◌≤◌, ◌<◌, length}
use Rattle.std.specs.List.{All, Contains}
use Rattle.gauges.specs.Sets.{Member}
use Rattle.links.specs.Spans.{Spans}
use Rattle.links.specs.Links.{count, begins, ends, Of, Covered}
use Rattle.cliques.specs.Groups.{Row}
use Rattle.sweep.specs.Shown.{Shown}
use Rattle.sweep.specs.Lines.{InOrder, Standing, Beginning}
use Rattle.sweep.specs.Graphs.{Shows, Drawn, Drawable}
use Rattle.sweep.specs.declared.spans.Hour.{Hour}

-- a shown row that begins at hour x
pub record ShownFrom (t : List ℕ) (least x : ℕ) (c : Row) : Type 0 where
  pub shown : Shown t least c
  pub from : c.begin ≡ x

-- and that ends at hour y too
pub record ShownOver (t : List ℕ) (least x y : ℕ) (c : Row) : Type 0 where
  pub shown : Shown t least c
  pub from : c.begin ≡ x
  pub upto : c.end ≡ y

-- a run of gauges u and v begins at hour x
pub record Begun (t : List ℕ) (x u v : ℕ) : Type 0 where
  pub link : ℕ
  pub there : link < count t
  pub pair : Of t link u v
  pub is : begins t link ≡ x

-- the set has both gauges of each run that begins at hour x, and every gauge that runs cover with both at that hour
pub record Wide (t : List ℕ) (x set : ℕ) : Type 0 where
  pub both : (u v : ℕ) → Begun t x u v → Member u set
  pub further : (u v w : ℕ) → Begun t x u v → Covered t u w x x → Covered t v w x x → Member w set

-- what a span takes: adj is the graph of the pairs covered throughout [x, y], fresh that of the pairs whose run begins at x, and the runs that stand at x
-- and end at y are just those of the part
pub record AtSpan (t part : List ℕ) (x y : ℕ) (adj fresh : List ℕ) (wide : ℕ) : Type 0 where
  pub table : Spans t
  pub span : x ≤ y
  pub graph : Shows adj (λ (u v : ℕ). Covered t u v x y)
  pub freshly : Shows fresh (Begun t x)
  pub reach : Wide t x wide
  pub drawable : Drawable t part
  pub begun : All (λ (r : ℕ). begins t r ≤ x) part
  pub ending : All (λ (r : ℕ). ends t r ≡ y) part
  pub all : (r : ℕ) → r < count t → begins t r ≤ x → ends t r ≡ y → Contains part r

-- what the spans that begin at an hour take: the runs that stand at it, their graph adj, and what the hour's fields say
pub record AtHour (t part : List ℕ) (hour : Hour) (adj : List ℕ) : Type 0 where
  pub table : Spans t
  pub standing : Standing t part hour.begin
  pub graph : Shows adj (Drawn t part)
  pub freshly : Shows hour.fresh.near (Begun t hour.begin)
  pub reach : Wide t hour.begin hour.wide
  pub bound : (r : ℕ) → r < count t → begins t r ≡ hour.begin → ends t r ≤ hour.last

-- what the groups that begin at hour x take: the runs that stand at it, and those that begin then
pub record AtBegin (t standing beginning : List ℕ) (x : ℕ) : Type 0 where
  pub table : Spans t
  pub stood : Standing t standing x
  pub begun : Beginning t beginning x

-- what the sweep takes: a table of spans, its runs in rising order of their begins, and a line with room for them
pub record AtTable (t order line : List ℕ) : Type 0 where
  pub table : Spans t
  pub lined_up : InOrder t order
  pub room : count t ≤ length line

-- What the lister shows. Assumes nothing: this is a definition.
use Rattle.std.specs.Prelude.{List, ℕ}
use Rattle.links.specs.Links.{Covered}
use Rattle.cliques.specs.Groups.{Row, Shown as ShownGroup}

-- the row is a group of the table of spans t, with gauges below 64, and has at least so many gauges
abbrev pub Shown : List ℕ → ℕ → Row → Type 0
Shown t least = ShownGroup (Covered t) 64 least

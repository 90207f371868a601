-- Families of joined spans. Assumes nothing: these are definitions.
use Rattle.std.specs.Prelude.{ℕ}

-- A family J says which gauges are joined when: J u v x y is that gauges u and v are joined throughout the span [x, y].
-- Cliques, groups and lists speak of a family; a table gives two (`Joined` and `Covered` of the crate `links`).
abbrev pub Family : Type 1
Family = ℕ → ℕ → ℕ → ℕ → Type 0

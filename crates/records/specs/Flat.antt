-- A slice of link records as the table of numbers that it stands for. Assumes nothing: this is a definition.
use Rattle.std.specs.Prelude.{List, [], ◌∷◌, ℕ}
use Rattle.records.specs.declared.Link.{Link}

-- the records' numbers in order, four a record: b, e, u, v
abbrev pub flat : List Link → List ℕ
flat [] = []
flat (l ∷ ls) = l.b ∷ l.e ∷ l.u ∷ l.v ∷ flat ls

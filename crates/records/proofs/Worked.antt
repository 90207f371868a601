-- A first check of the definition by computing: table T of document 01 as records. Assumes nothing.
use mathlib.Core.List.{List, [], ◌∷◌}
use mathlib.Core.Path.{◌≡◌, refl}
use Rattle.cliques.proofs.Worked.{T}
use Rattle.records.specs.declared.Link.{Link}
use Rattle.records.specs.Flat.{flat}

abbrev pub T-records : List Link
T-records =
    record { b = 1; e = 9; u = 0; v = 1 }
    ∷ record { b = 3; e = 12; u = 1; v = 2 }
    ∷ record { b = 5; e = 14; u = 0; v = 2 }
    ∷ record { b = 7; e = 20; u = 2; v = 3 }
    ∷ record { b = 10; e = 18; u = 1; v = 3 }
    ∷ []

-- their table is T
pub T-flat : flat T-records ≡ T
T-flat = refl

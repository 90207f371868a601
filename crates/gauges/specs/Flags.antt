-- What a test answers. Assumes nothing: this is a definition.
use Rattle.std.specs.Prelude.{Bool, true, false, ◌≡◌}

-- the flag b says whether P holds
pub record Tells (b : Bool) (P : Type 0) : Type 0 where
  pub holds : b ≡ true → P
  pub fails : b ≡ false → P → ⊥

-- What the theory of groups asks of a family of joined spans. The families of tables have all of it. Assumes nothing: these are definitions.
use mathlib.Core.Path.{◌≡◌}
use mathlib.Core.List.{List, Memᴰ as In}
use Prim.Native.Nat.{ℕ, suc, ◌≤◌}
use Rattle.cliques.specs.Families.{Family}

-- a family is decided, holds of each smaller span where it holds of a span, and of no span past a last hour
pub record Lawful (J : Family) : Type 0 where
  pub decided : (u v x y : ℕ) → Dec (J u v x y)
  pub narrows : {u v x y x' y' : ℕ} → x ≤ x' → x' ≤ y' → y' ≤ y → J u v x y → J u v x' y'
  pub last : ℕ
  pub bounded : {u v x y : ℕ} → J u v x y → y ≤ last

-- the gauges that are joined at all, and the hours at which a joined span can begin that does not reach further back, and end that does not reach further on, are finitely many
pub record Finite (J : Family) : Type 0 where
  pub gauges : List ℕ
  pub begins : List ℕ
  pub ends : List ℕ
  pub one_known : {u v x y : ℕ} → J u v x y → In u gauges
  pub other_known : {u v x y : ℕ} → J u v x y → In v gauges
  pub begin_known : {u v x y : ℕ} → J u v x y → ((z : ℕ) → suc z ≡ x → J u v z y → ⊥) → In x begins
  pub end_known : {u v x y : ℕ} → J u v x y → (J u v x (suc y) → ⊥) → In y ends

-- Exactly one reply keeps a promise. Assumes nothing: these are definitions.
use Rattle.std.specs.Prelude.{List, ◌≡◌, ℕ}

-- a reply keeps the promise, and no other does
pub record One {R : Type 0} (P : R → Type 0) : Type 0 where
  pub reply : R
  pub kept : P reply
  pub only : (r : R) → P r → r ≡ reply

-- a reply and a content of the lent memory keep the promise, and no others do
pub record Exactly {R : Type 0} (P : R → List ℕ → Type 0) : Type 0 where
  pub reply : R
  pub memory : List ℕ
  pub kept : P reply memory
  pub only : (r : R) (m : List ℕ) → P r m → (r ≡ reply) × (m ≡ memory)

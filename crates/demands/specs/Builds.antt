-- Builds of the list: whatever answers it and fills the buffer. Assumes nothing: these are definitions.
use Rattle.std.specs.Prelude.{List, ℕ}
use Rattle.groups.specs.Replies.{Listed, Listing}

-- what a build answers of a table, a gauge count and a buffer, and the buffer that it leaves
pub record Build : Type 0 where
  pub reply : List ℕ → ℕ → List ℕ → Listed
  pub buffer : List ℕ → ℕ → List ℕ → List ℕ

-- a build that keeps the promise of the list
pub record Keeps (b : Build) : Type 0 where
  pub promise : (t : List ℕ) (g : ℕ) (before : List ℕ) → Listing t g before (b.reply t g before) (b.buffer t g before)

-- The two reasons that speak of lent memory. Assumes nothing: these are definitions.
use Rattle.std.specs.Prelude.{List, ◌≡◌, ℕ, ◌<◌, length}
use Rattle.links.specs.Links.{Joined, Accepted}
use Rattle.cliques.specs.Groups.{Group}
use Rattle.cliques.specs.Buffers.{TooMany}
use Rattle.linkfile.specs.Files.{file_of}

-- reason 9: more groups of an accepted table than whole rows lent
pub record Full (t : List ℕ) (g : ℕ) (before : List ℕ) (n p : ℕ) : Type 0 where
  pub reason : n ≡ 9
  pub place : p ≡ 0
  pub accepted : Accepted t g
  pub too_many : TooMany (Group (Joined t) g) before

-- reason 26: the file of an accepted table is longer than the buffer
pub record TooLong (t : List ℕ) (g : ℕ) (bytes : List ℕ) (n p : ℕ) : Type 0 where
  pub reason : n ≡ 26
  pub place : p ≡ 0
  pub accepted : Accepted t g
  pub longer : length bytes < length (file_of t g)

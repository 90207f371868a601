-- Taking the gauges of a set one after another, the lowest first. Assumes nothing: these are definitions.
use Rattle.std.specs.Prelude.{◌⊎◌, ◌≡◌, ℕ, ◌≤◌, ◌<◌, Option, Some, None}
use Rattle.gauges.specs.Sets.{Member}
use Rattle.gauges.specs.declared.members.Members.{Members}

-- k, the lowest gauge of m, is taken out, and m' is left
pub record Taken (m k m' : ℕ) : Type 0 where
  pub gauge : k < 64
  pub there : Member k m
  pub lowest : (j : ℕ) → Member j m → k ≤ j
  pub gone : Member k m' → ⊥
  pub kept : (j : ℕ) → Member j m → (j ≡ k) ⊎ Member j m'
  pub still : (j : ℕ) → Member j m' → Member j m

-- the lowest of the gauges that are left, which is taken out; or none, where none is left
abbrev pub Takes : Members → Option ℕ → Members → Type 0
Takes s (Some k) s' = Taken s.left k s'.left
Takes s None s' = (s.left ≡ 0) × (s'.left ≡ 0)

-- Two families that hold of the same gauges and spans have the same groups and the same list. Assumes nothing.
use Prim.Native.Nat.{ℕ, ◌≤◌, ◌<◌}
use Rattle.cliques.specs.Families.{Family}
use Rattle.cliques.specs.Groups.{Row, Clique, Group}
use Rattle.cliques.specs.Lists.{Complete}
use Rattle.cliques.proofs.Cliques.{rejoined}
use Rattle.cliques.proofs.OneList.{listed_as}

-- whatever J joins throughout a span, J' joins throughout it
abbrev pub SubFamily : Family → Family → Type 0
SubFamily J J' = (u v x y : ℕ) → u < v → x ≤ y → J u v x y → J' u v x y

-- a clique of J is then one of J'
pub sub_clique : {J J' : Family} {g : ℕ} {c : Row} → SubFamily J J' → Clique J g c → Clique J' g c
sub_clique f q = rejoined q q.span (λ u v p r l. f u v _ _ l q.span (q.joined u v p r l))

-- families that hold of the same spans have the same groups
pub same_groups : {J J' : Family} {g : ℕ} {c : Row} → SubFamily J J' → SubFamily J' J → Group J g c → Group J' g c
same_groups f b G = record { clique = sub_clique f G.clique; maximal = λ d q s. G.maximal d (sub_clique b q) s }

-- and the same list
pub same_complete : {J J' : Family} {g : ℕ} {rows : ℕ → Row} {k : ℕ} → SubFamily J J' → SubFamily J' J → Complete J g rows k → Complete J' g rows k
same_complete f b C = listed_as (λ c. same_groups f b) (λ c. same_groups b f) C

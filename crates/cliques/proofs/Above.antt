-- Every clique of a lawful family lies inside a group. Assumes nothing.
use mathlib.Core.Logic.{⊎_elim}
use Prim.Native.Nat.{ℕ, zero, suc, ◌+◌, ◌-◌, ◌^◌, ◌<◌}
use native.Mathlib.Nat.{le_refl}
use native.Mathlib.Omega.{arith}
use lib.Bits.{bit_or}
use lib.Count.{ones}
use Rattle.gauges.proofs.Laws.{member_pow, or_right, ones_missing}
use Rattle.cliques.specs.Families.{Family}
use Rattle.cliques.specs.Groups.{Row, Clique, Inside, Group}
use Rattle.cliques.proofs.Lawful.{Lawful}
use Rattle.cliques.proofs.Rows.{inside_refl, inside_trans, with_gauge, from_hour, upto_hour, with_gauge_strictly, from_hour_strictly, upto_hour_strictly}
use Rattle.cliques.proofs.Members.{known_ones}
use Rattle.cliques.proofs.Cliques.{clique_last}
use Rattle.cliques.proofs.Local.{Larger, further, earlier, later, local_group, local_or_larger}

-- how many steps larger a clique can become at most
abbrev room : ℕ → ℕ → Row → ℕ
room last g c = c.begin + (last - c.end) + (g - ones c.members)

module _ {J : Family} (L : Lawful J) where
  -- the larger clique has less room
  larger_clique : {g : ℕ} {c : Row} → Larger J g c → (d : Row) × Clique J g d × Inside c d × (room L.last g d < room L.last g c)
  larger_clique {g} {c} (further k f r) =
      let i = (with_gauge_strictly c k f).inside in
      let m = bit_or c.members (2 ^ k) in
      let more = ones_missing c.members m k i.gauges (or_right c.members (2 ^ k) k (member_pow k)) f in
      (with_gauge c k, r, i, omega (arith, more, known_ones m g r.known))
  larger_clique {g} {c} (earlier x e r) = (from_hour c x, r, (from_hour_strictly c x e).inside, omega arith)
  larger_clique {g} {c} (later r) = (upto_hour c (suc c.end), r, (upto_hour_strictly c).inside, omega (arith, clique_last L r))

  climb : (n g : ℕ) (c : Row) → room L.last g c < n → Clique J g c → (d : Row) × Group J g d × Inside c d
  climb zero g c h q = absurd (omega arith)
  climb (suc n) g c h q =
      ⊎_elim
      (λ l. (c, local_group L l, inside_refl c))
      (λ s. let t = larger_clique s in let r = climb n g t.0 (omega (arith, t.3)) t.1 in (r.0, r.1, inside_trans t.2 r.2))
      (local_or_larger L q)

  -- every clique lies inside a group
  pub above : {g : ℕ} {c : Row} → Clique J g c → (d : Row) × Group J g d × Inside c d
  above {g} {c} q = climb (suc (room L.last g c)) g c (le_refl _) q

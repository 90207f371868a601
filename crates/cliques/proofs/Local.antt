-- A clique of a lawful family is a group exactly if it cannot be one step larger. Whether a row is a group is decided. Assumes nothing.
use mathlib.Core.Path.{◌≡◌, sym, subst}
use mathlib.Core.Logic.{◌⊎◌, inl, inr, ⊎_elim, dite}
use Prim.Native.Nat.{ℕ, suc, ◌-◌, ◌^◌}
use native.Mathlib.Nat.{le_trans}
use native.Mathlib.Decide.{dec_le, dec_lt}
use native.Mathlib.Omega.{arith}
use lib.Bits.{bit_or}
use Rattle.gauges.specs.Sets.{Member, Within}
use Rattle.gauges.proofs.Bounded.{given, all_or_some}
use Rattle.gauges.proofs.Laws.{member_dec, member_pow, member_pow_eq, or_right, or_cases, ones_within}
use Rattle.cliques.specs.Families.{Family}
use Rattle.cliques.specs.Groups.{Row, Clique, Inside, Strictly, Group}
use Rattle.cliques.proofs.Lawful.{Lawful}
use Rattle.cliques.proofs.Rows.{inside_both, with_gauge, from_hour, upto_hour, with_gauge_strictly, from_hour_strictly, upto_hour_strictly}
use Rattle.cliques.proofs.Members.{within_or_lacks}
use Rattle.cliques.proofs.Cliques.{part, clique_dec}

-- c is a clique that cannot be one step larger
pub record Local (J : Family) (g : ℕ) (c : Row) : Type 0 where
  pub clique : Clique J g c
  pub no_further : (k : ℕ) → (Member k c.members → ⊥) → Clique J g (with_gauge c k) → ⊥
  pub no_earlier : (x : ℕ) → suc x ≡ c.begin → Clique J g (from_hour c x) → ⊥
  pub no_later : Clique J g (upto_hour c (suc c.end)) → ⊥

-- a clique that is one step larger than c
pub data Larger (J : Family) (g : ℕ) (c : Row) : Type 0 where
  further : (k : ℕ) → (Member k c.members → ⊥) → Clique J g (with_gauge c k) → Larger J g c
  earlier : (x : ℕ) → suc x ≡ c.begin → Clique J g (from_hour c x) → Larger J g c
  later : Clique J g (upto_hour c (suc c.end)) → Larger J g c

-- there is none of a clique that cannot be one step larger
pub larger_not_local : {J : Family} {g : ℕ} {c : Row} → Larger J g c → Local J g c → ⊥
larger_not_local (further k f q) l = l.no_further k f q
larger_not_local (earlier x e q) l = l.no_earlier x e q
larger_not_local (later q) l = l.no_later q

-- a group cannot be one step larger
pub group_local : {J : Family} {g : ℕ} {c : Row} → Group J g c → Local J g c
group_local {c = c} G =
    record {
      clique = G.clique;
      no_further = λ k f q. G.maximal (with_gauge c k) q (with_gauge_strictly c k f);
      no_earlier = λ x e q. G.maximal (from_hour c x) q (from_hour_strictly c x e);
      no_later = λ q. G.maximal (upto_hour c (suc c.end)) q (upto_hour_strictly c);
    }

module _ {J : Family} (L : Lawful J) where
  -- a clique strictly inside another can be one step larger
  pub step : {g : ℕ} {c d : Row} → Clique J g c → Clique J g d → Strictly c d → Larger J g c
  unfolding Within
  step {g} {c} {d} q r s =
      let i = s.inside in
      dite (dec_lt d.begin c.begin)
      (λ l. earlier (c.begin - 1) (omega arith) (part L r (record { gauges = i.gauges; from = omega arith; upto = i.upto }) (omega (arith, q.span)) q.two))
      (λ l.
      dite (dec_lt c.end d.end)
      (λ m. later (part L r (record { gauges = i.gauges; from = i.from; upto = m }) (omega (arith, q.span)) q.two))
      (λ m.
      ⊎_elim
      (λ w. absurd (s.differ (inside_both i (record { gauges = w; from = omega arith; upto = omega arith }))))
      (λ k. one_more k.number k.holds.0 k.holds.1)
      (within_or_lacks d.members c.members g r.known)))
    where
      one_more : (k : ℕ) → Member k d.members → (Member k c.members → ⊥) → Larger J g c
      one_more k h f =
          let i = s.inside in
          let same : (j : ℕ) → Member j (2 ^ k) → Member j d.members = λ j p. subst (λ (n : ℕ). Member n d.members) (sym (member_pow_eq j k p)) h in
          let w : Inside (with_gauge c k) d = record { gauges = λ j p. ⊎_elim (i.gauges j) (same j) (or_cases c.members (2 ^ k) j p); from = i.from; upto = i.upto } in
          further k f (part L r w q.span (le_trans q.two (ones_within c.members (bit_or c.members (2 ^ k)) (with_gauge_strictly c k f).inside.gauges)))

  -- a clique that cannot be one step larger is a group
  pub local_group : {g : ℕ} {c : Row} → Local J g c → Group J g c
  local_group l = record { clique = l.clique; maximal = λ d q s. larger_not_local (step l.clique q s) l }

  -- a clique cannot be one step larger, or a step is found
  unfoldable pub local_or_larger : {g : ℕ} {c : Row} → Clique J g c → Local J g c ⊎ Larger J g c
  unfolding all_or_some dec_le clique_dec member_dec
  local_or_larger {g} {c} q =
      ⊎_elim (λ a. ⊎_elim (λ b. ⊎_elim (λ f. inl (record { clique = q; no_further = f; no_earlier = b; no_later = a })) inr more) inr before) inr after
    where
      after : (Clique J g (upto_hour c (suc c.end)) → ⊥) ⊎ Larger J g c
      after = dite (clique_dec L g (upto_hour c (suc c.end))) (λ r. inr (later r)) inl

      before : ((x : ℕ) → suc x ≡ c.begin → Clique J g (from_hour c x) → ⊥) ⊎ Larger J g c
      before =
          dite (dec_le c.begin 0)
          (λ z. inl (λ x e _. omega arith))
          (λ z.
          dite (clique_dec L g (from_hour c (c.begin - 1)))
          (λ r. inr (earlier (c.begin - 1) (omega arith) r))
          (λ f. inl (λ x e r. f (subst (λ (y : ℕ). Clique J g (from_hour c y)) (omega arith) r))))

      one : (k : ℕ) → ((Member k c.members → ⊥) → Clique J g (with_gauge c k) → ⊥) ⊎ Larger J g c
      one k =
          dite (member_dec k c.members)
          (λ h. inl (λ f _. f h))
          (λ f. dite (clique_dec L g (with_gauge c k)) (λ r. inr (further k f r)) (λ n. inl (λ _. n)))

      more : ((k : ℕ) → (Member k c.members → ⊥) → Clique J g (with_gauge c k) → ⊥) ⊎ Larger J g c
      more =
          ⊎_elim
          (λ all. inl (λ k f r. all k (r.known k (or_right c.members (2 ^ k) k (member_pow k))) f r))
          (λ s. inr s.holds)
          (all_or_some one g)

  -- whether a row is a group is decided
  unfoldable pub group_dec : (g : ℕ) (c : Row) → Dec (Group J g c)
  unfolding clique_dec local_or_larger
  group_dec g c =
      given (clique_dec L g c) (λ G. G.clique) (λ q.
      ⊎_elim (λ l. yes (local_group l)) (λ s. no (λ G. larger_not_local s (group_local G))) (local_or_larger q))

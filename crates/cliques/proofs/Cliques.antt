-- Cliques of a lawful family: whether a row is one is decided, a part of one is one, and one with a further gauge that is near all of it is one. Assumes nothing.
use mathlib.Core.Logic.{◌⊎◌, inl, inr, ⊎_elim, dite}
use mathlib.Core.Path.{◌≡◌, sym, subst, ◌∙◌}
use Prim.Native.Nat.{ℕ, ◌^◌, ◌≤◌, ◌<◌}
use native.Mathlib.Nat.{le_trans}
use native.Mathlib.Decide.{ℕ_discrete, dec_le, dec_lt}
use native.Mathlib.Omega.{arith}
use lib.Bits.{bit_or}
use lib.Count.{ones, ones_in}
use Rattle.gauges.specs.Sets.{Member, Within}
use Rattle.gauges.proofs.Bounded.{given}
use Rattle.gauges.proofs.Laws.{member_lt, member_pow_eq, or_left, or_cases, ones_in_lem, ones_within, two_members}
use Rattle.cliques.specs.Families.{Family}
use Rattle.cliques.specs.Groups.{Row, Clique, Inside}
use Rattle.cliques.proofs.Lawful.{Lawful}
use Rattle.cliques.proofs.Rows.{with_gauge}
use Rattle.cliques.proofs.Members.{Pair, Each, each_or_pair, known_lt}

-- J joins every two gauges of c throughout its span
abbrev pub Joins : Family → Row → Type 0
Joins J c = Each c.members (λ u v. J u v c.begin c.end)

-- c has two gauges that J does not join throughout its span
abbrev pub Unjoined : Family → Row → Type 0
Unjoined J c = Pair c.members (λ u v. J u v c.begin c.end → ⊥)

-- one or the other
unfoldable pub joins_or_not : {J : Family} → Lawful J → (g : ℕ) (c : Row) → ((k : ℕ) → Member k c.members → k < g) → Joins J c ⊎ Unjoined J c
unfolding each_or_pair
joins_or_not L g c known = each_or_pair (λ u v. L.decided u v c.begin c.end) c.members g known

-- a clique has a joined pair
pub clique_pair : {J : Family} {g : ℕ} {c : Row} → Clique J g c → Pair c.members (λ u v. J u v c.begin c.end)
clique_pair {c = c} q =
    let p = two_members c.members q.two in
    record { one = p.0; other = p.1; less = p.2; one_in = p.3; other_in = p.4; is = q.joined p.0 p.1 p.3 p.4 p.2 }

-- so it ends at the last hour at most
pub clique_last : {J : Family} {g : ℕ} {c : Row} (L : Lawful J) → Clique J g c → c.end ≤ L.last
clique_last L q = L.bounded (clique_pair q).is

-- the set of a clique is a clique over any span throughout which any family joins it
pub rejoined : {J J' : Family} {g x y : ℕ} {c : Row} → Clique J g c → x ≤ y → Each c.members (λ u v. J' u v x y)
    → Clique J' g (record { begin = x; end = y; members = c.members })
rejoined q span e = record { span = span; known = q.known; two = q.two; joined = e }

-- a part of a clique that has a span and two gauges is a clique
pub part : {J : Family} {g : ℕ} {c d : Row} → Lawful J → Clique J g d → Inside c d → c.begin ≤ c.end → 2 ≤ ones c.members → Clique J g c
unfolding Within
part L q i span two =
    record {
      span = span;
      known = λ k h. q.known k (i.gauges k h);
      two = two;
      joined = λ u v p r l. L.narrows i.from span i.upto (q.joined u v (i.gauges u p) (i.gauges v r) l);
    }

-- whether a row is a clique is decided
unfoldable pub clique_dec : {J : Family} → Lawful J → (g : ℕ) (c : Row) → Dec (Clique J g c)
unfolding dec_le dec_lt ones_in joins_or_not
clique_dec L g c =
    given (dec_le c.begin c.end) (λ q. q.span) (λ span.
    given (dec_lt c.members (2 ^ g)) (λ q. known_lt c.members g q.known) (λ small.
    given (dec_le 2 (ones_in g c.members)) (λ q. le_trans q.two (omega (arith, ones_in_lem g c.members small))) (λ two.
    let known : (k : ℕ) → Member k c.members → k < g = λ k. member_lt k c.members g small in
    ⊎_elim
    (λ all. yes (record { span = span; known = known; two = omega (arith, ones_in_lem g c.members small); joined = all }))
    (λ p. no (λ q. p.is (q.joined p.one p.other p.one_in p.other_in p.less)))
    (joins_or_not L g c known))))

-- ---- gauges that are near one another

-- the two gauges are joined throughout [x, y], the smaller one first, or they are one
pub record Near (J : Family) (x y u v : ℕ) : Type 0 where
  pub up : u < v → J u v x y
  pub down : v < u → J v u x y

-- a gauge is near itself, ..
pub near_same : {J : Family} (x y u : ℕ) → Near J x y u u
near_same x y u = record { up = λ h. absurd (omega arith); down = λ h. absurd (omega arith) }

-- and nearness goes both ways
pub near_flip : {J : Family} (x y u v : ℕ) → Near J x y u v → Near J x y v u
near_flip x y u v h = record { up = h.down; down = h.up }

-- a joined pair is near
pub near_up : {J : Family} {x y u v : ℕ} → u < v → J u v x y → Near J x y u v
near_up h j = record { up = λ _. j; down = λ k. absurd (omega arith) }

-- the members of a clique are near one another
pub clique_near : {J : Family} {g : ℕ} {c : Row} → Clique J g c → (u v : ℕ) → Member u c.members → Member v c.members → Near J c.begin c.end u v
clique_near C u v p q = record { up = C.joined u v p q; down = C.joined v u q p }

-- a gauge of a clique has another beside it
pub other_member : {J : Family} {g : ℕ} {c : Row} → Clique J g c → (k : ℕ) → (v : ℕ) × (k ≡ v → ⊥) × Member v c.members
other_member {c = c} K k =
    let w = two_members c.members K.two in
    dite (ℕ_discrete k w.0) (λ e. (w.1, λ d. omega (arith, w.2), w.4)) (λ n. (w.0, n, w.3))

-- a clique with a further gauge that is near all of it is a clique
pub wider : {J : Family} {g : ℕ} {c : Row} → Clique J g c → (k : ℕ) → k < g → ((u : ℕ) → Member u c.members → Near J c.begin c.end k u) → Clique J g (with_gauge c k)
unfolding Within
wider {J} {c = c} q k h f =
    record {
      span = q.span;
      known = λ j i. ⊎_elim (q.known j) (λ p. omega (arith, member_pow_eq j k p)) (or_cases m (2 ^ k) j i);
      two = le_trans q.two (ones_within m (bit_or m (2 ^ k)) (or_left m (2 ^ k)));
      joined = λ u v i j l. (both u v (or_cases m (2 ^ k) u i) (or_cases m (2 ^ k) v j)).up l;
    }
  where
    m : ℕ
    m = c.members

    Joint : ℕ → ℕ → Type 0
    Joint = Near J c.begin c.end

    both : (u v : ℕ) → Member u m ⊎ Member u (2 ^ k) → Member v m ⊎ Member v (2 ^ k) → Joint u v
    both u v (inl p) (inl r) = clique_near q u v p r
    both u v (inl p) (inr r) = subst (Joint u) (sym (member_pow_eq v k r)) (near_flip c.begin c.end k u (f u p))
    both u v (inr p) (inl r) = subst (λ (w : ℕ). Joint w v) (sym (member_pow_eq u k p)) (f v r)
    both u v (inr p) (inr r) = subst (Joint u) (member_pow_eq u k p ∙ sym (member_pow_eq v k r)) (near_same c.begin c.end u)

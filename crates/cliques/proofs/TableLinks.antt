-- Lemma 3 of the paper for tables of spans, and its converse: a clique that no further gauge fits, with a pair whose span begins with it and a pair whose span ends with it,
-- is a group, if the spans of one pair share no hour; and each group is such a clique. Assumes nothing.
use mathlib.Core.List.{List}
use mathlib.Core.Logic.{dite}
use mathlib.Core.Path.{◌≡◌, ap, subst}
use Prim.Native.Nat.{ℕ, ◌^◌, ◌<◌}
use native.Mathlib.Decide.{dec_lt}
use native.Mathlib.Nat.{le_refl}
use native.Mathlib.Omega.{arith}
use Rattle.gauges.specs.Sets.{Member}
use Rattle.gauges.proofs.Laws.{member_pow, or_left, or_right}
use Rattle.links.specs.Links.{begins, ends, Covers, Covered, Apart}
use Rattle.links.proofs.Pairs.{covered_sym, covers_clash}
use Rattle.cliques.specs.Groups.{Row, Clique, Group}
use Rattle.cliques.proofs.Members.{Pair}
use Rattle.cliques.proofs.Cliques.{wider}
use Rattle.cliques.proofs.Local.{group_local, local_group}
use Rattle.cliques.proofs.Lemma3.{group_begins, group_ends}
use Rattle.cliques.proofs.CoveredSpans.{first_hour, last_hour, covered_lawful}

-- two gauges of c, and a link of theirs that covers its span
pub record CoveredPair (t : List ℕ) (c : Row) : Type 0 where
  pub one : ℕ
  pub other : ℕ
  pub less : one < other
  pub one_in : Member one c.members
  pub other_in : Member other c.members
  pub link : ℕ
  pub covers : Covers t one other c.begin c.end link

-- the link of such a pair begins with c
pub record FirstLink (t : List ℕ) (c : Row) : Type 0 where
  pub pair : CoveredPair t c
  pub first : begins t pair.link ≡ c.begin

-- the link of such a pair ends with c
pub record LastLink (t : List ℕ) (c : Row) : Type 0 where
  pub pair : CoveredPair t c
  pub last : ends t pair.link ≡ c.end

-- no further gauge below g is joined to every gauge of c throughout its span
pub record Filled (t : List ℕ) (g : ℕ) (c : Row) : Type 0 where
  pub no_further : (k : ℕ) → k < g → (Member k c.members → ⊥) → ((u : ℕ) → Member u c.members → Covered t u k c.begin c.end) → ⊥

-- any two gauges of a clique are joined, whichever is named first
pub clique_covered : {t : List ℕ} {g : ℕ} {c : Row} → Clique (Covered t) g c → (u v : ℕ) → Member u c.members → Member v c.members → (u ≡ v → ⊥)
    → Covered t u v c.begin c.end
clique_covered Q u v p q n = dite (dec_lt u v) (Q.joined u v p q) (λ f. covered_sym (Q.joined v u q p (omega arith)))

module _ {t : List ℕ} {g : ℕ} {c : Row} where
  -- each pair of a clique has a link that covers its span
  pub covered_pair : {R : ℕ → ℕ → Type 0} → Clique (Covered t) g c → Pair c.members R → CoveredPair t c
  covered_pair Q p =
      let j = Q.joined p.one p.other p.one_in p.other_in p.less in
      record { one = p.one; other = p.other; less = p.less; one_in = p.one_in; other_in = p.other_in; link = j.link; covers = j.covers }

  -- a group has a link that begins with it,
  pub group_first_link : Group (Covered t) g c → FirstLink t c
  unfolding covered_pair
  group_first_link G =
      let p = group_begins (covered_lawful t) G in
      let q = covered_pair G.clique p in
      record { pair = q; first = first_hour q.covers p.is }

  -- one that ends with it,
  pub group_last_link : Group (Covered t) g c → LastLink t c
  unfolding covered_pair
  group_last_link G =
      let p = group_ends (covered_lawful t) G in
      let q = covered_pair G.clique p in
      record { pair = q; last = last_hour q.covers p.is }

  -- and no further gauge that fits
  pub group_filled : Group (Covered t) g c → Filled t g c
  group_filled G =
      record {
        no_further = λ k h f all. (group_local G).no_further k f (wider G.clique k h (λ u m. record { up = λ _. covered_sym (all u m); down = λ _. all u m }));
      }

  -- a clique that has all three is a group, if the links of one pair share no hour
  pub linked_group : Apart t → Clique (Covered t) g c → Filled t g c → FirstLink t c → LastLink t c → Group (Covered t) g c
  linked_group A Q F b e =
      local_group (covered_lawful t) (record {
        clique = Q;
        no_further = λ k f K.
            let m = or_right c.members (2 ^ k) k (member_pow k) in
            F.no_further k (K.known k m) f (λ u h. clique_covered K u k (or_left c.members (2 ^ k) u h) m (λ s. f (subst (λ (n : ℕ). Member n c.members) s h)));
        no_earlier = λ z s K.
            let p = b.pair in
            let j = K.joined p.one p.other p.one_in p.other_in p.less in
            A p.link j.link p.covers.there j.covers.there
            (λ d. omega (arith, b.first, ap (begins t) d, j.covers.from))
            (covers_clash p.covers j.covers c.begin (le_refl _) Q.span (omega arith) Q.span);
        no_later = λ K.
            let p = e.pair in
            let j = K.joined p.one p.other p.one_in p.other_in p.less in
            A p.link j.link p.covers.there j.covers.there
            (λ d. omega (arith, e.last, ap (ends t) d, j.covers.upto))
            (covers_clash p.covers j.covers c.end Q.span (le_refl _) Q.span (omega arith));
      })

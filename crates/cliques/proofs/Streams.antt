-- The groups of a link stream's family are exactly its maximal cliques with at least two nodes, as document 000 defines those.
-- The stream is undirected, and need not be simple. Assumes nothing.
use mathlib.Core.Bool.{Bool, true, false}
use mathlib.Core.Path.{◌≡◌, refl, sym, subst, ◌∙◌}
use mathlib.Core.Logic.{dite}
use Prim.Native.Nat.{ℕ, ◌<◌}
use native.Mathlib.Nat.{le_trans}
use native.Mathlib.Decide.{dec_lt}
use native.Mathlib.Omega.{arith}
use Rattle.gauges.specs.Sets.{Member, set_of, Within}
use Rattle.gauges.proofs.Flags.{told_true}
use Rattle.gauges.proofs.Laws.{tells_member, member_ext, ones_two}
use Rattle.cliques.specs.Groups.{Row, Clique, Inside, Group}
use Rattle.cliques.specs.Paper.{Stream, Undirected, Timed, Linked, StreamClique, Contained, Same, StreamMaximal, TwoNodes, timed, FamilyOf}
use Rattle.cliques.proofs.Rows.{same_row}
use Rattle.cliques.proofs.Cliques.{clique_pair}
use Rattle.cliques.proofs.Sorting.{numbers, numbers_in, picked, picked_in, in_picked}
use Rattle.cliques.proofs.Masks.{mask, mask_in, in_mask}

-- ---- masks and sets

-- set_of m holds the members of m,
pub set_member : (m k : ℕ) → set_of m k ≡ true → Member k m
set_member m k = (tells_member k m).holds

-- all of them
pub member_set : (m k : ℕ) → Member k m → set_of m k ≡ true
member_set m k h = told_true (tells_member k m) h

-- two flags are equal if each is true where the other is
same_flag : (a b : Bool) → (a ≡ true → b ≡ true) → (b ≡ true → a ≡ true) → a ≡ b
same_flag true b f g = sym (f refl)
same_flag false true f g = g refl
same_flag false false f g = refl

-- the mask of a set's nodes below n
abbrev mask_of : (ℕ → Bool) → ℕ → ℕ
mask_of X n = mask (picked X (numbers n))

-- a member of the mask is a node of the set,
mask_set : (X : ℕ → Bool) (n k : ℕ) → Member k (mask_of X n) → X k ≡ true
mask_set X n k h = (in_picked X (numbers n) (in_mask (picked X (numbers n)) k h)).0

-- and each node below n is a member
set_mask : (X : ℕ → Bool) (n k : ℕ) → X k ≡ true → k < n → Member k (mask_of X n)
set_mask X n k e l = mask_in (picked X (numbers n)) k (picked_in X e (numbers_in n l))

-- ---- rows, and sets with an interval

-- the row of a set and an interval, the nodes being below g
abbrev row_from : ℕ → Timed → Row
row_from g C = record { begin = C.from; end = C.upto; members = mask_of C.set g }

-- equal nodes and intervals make an equation
same_path : {C C' : Timed} → Same C C' → C ≡ C'
same_path s = λ i. record { set = λ u. s.nodes u i; from = s.from i; upto = s.upto i }

-- the row of a clique of the paper has its set and interval
pub clique_row : {L : Stream} {C : Timed} → StreamClique L C → Same (timed (row_from L.nodes C)) C
clique_row {L} {C} q = record { nodes = λ u. same_flag (set_of m u) (C.set u) (there u) (here u); from = refl; upto = refl }
  where
    m : ℕ
    m = mask_of C.set L.nodes

    there : (u : ℕ) → set_of m u ≡ true → C.set u ≡ true
    there u e = mask_set C.set L.nodes u (set_member m u e)

    here : (u : ℕ) → C.set u ≡ true → set_of m u ≡ true
    here u e = member_set m u (set_mask C.set L.nodes u e (q.nodes u e))

-- no two rows have the same set and interval
pub timed_same : {c d : Row} → Same (timed c) (timed d) → c ≡ d
unfolding Within
timed_same {c} {d} s =
    same_row s.from s.upto
    (member_ext c.members d.members
    (λ k h. set_member d.members k (sym (s.nodes k) ∙ member_set c.members k h))
    (λ k h. set_member c.members k (s.nodes k ∙ member_set d.members k h)))

-- equal rows have the same,
same_timed : {c d : Row} → c ≡ d → Same (timed c) (timed d)
same_timed {c} e = subst (λ (d : Row). Same (timed c) (timed d)) e (record { nodes = λ u. refl; from = refl; upto = refl })

-- and one row lies inside another exactly if its set and interval are contained in the other's
inside_contained : {c d : Row} → Inside c d → Contained (timed c) (timed d)
unfolding Within
inside_contained {c} {d} i =
    record { nodes = λ u e. member_set d.members u (i.gauges u (set_member c.members u e)); from = i.from; upto = i.upto }

contained_inside : {c d : Row} → Contained (timed c) (timed d) → Inside c d
unfolding Within
contained_inside {c} {d} i =
    record { gauges = λ k h. set_member d.members k (i.nodes k (member_set c.members k h)); from = i.from; upto = i.upto }

-- ---- cliques

module _ {L : Stream} where
  -- a clique of the paper with two nodes, written as a row, is a clique
  pub stream_clique : {c : Row} → TwoNodes (timed c) → StreamClique L (timed c) → Clique (FamilyOf L) L.nodes c
  stream_clique {c} t q =
      record {
        span = q.span;
        known = λ k h. q.nodes k (member_set c.members k h);
        two = ones_two t.one t.other c.members t.differ (set_member c.members t.one t.one_in) (set_member c.members t.other t.other_in);
        joined = λ u v p r l. record { span = q.span; linked = q.linked u v (member_set c.members u p) (member_set c.members v r) (λ e. omega arith) };
      }

  -- a clique, as a set and an interval, has two nodes
  pub clique_two : {c : Row} → Clique (FamilyOf L) L.nodes c → TwoNodes (timed c)
  clique_two {c} q =
      let p = clique_pair q in
      record {
        one = p.one;
        other = p.other;
        differ = λ e. omega (arith, p.less);
        one_in = member_set c.members p.one p.one_in;
        other_in = member_set c.members p.other p.other_in;
      }

  module _ (U : Undirected L) where
    -- and is a clique of the paper
    pub clique_stream : {c : Row} → Clique (FamilyOf L) L.nodes c → StreamClique L (timed c)
    clique_stream {c} q =
        record {
          nodes = λ u e. q.known u (set_member c.members u e);
          span = q.span;
          in_time = let j = (clique_pair q).is.linked in le_trans j.lasts (L.in_time j.there);
          linked = λ u v p r f. both u v (set_member c.members u p) (set_member c.members v r) f;
        }
      where
        both : (u v : ℕ) → Member u c.members → Member v c.members → (u ≡ v → ⊥) → Linked L u v c.begin c.end
        both u v p r f =
            dite (dec_lt u v)
            (λ l. (q.joined u v p r l).linked)
            (λ n. let j = (q.joined v u r p (omega arith)).linked in record { b = j.b; e = j.e; there = U.turned j.there; begun = j.begun; lasts = j.lasts })

    -- ---- groups

    -- a group is a maximal clique of the paper with at least two nodes
    pub group_maximal : {c : Row} → Group (FamilyOf L) L.nodes c → TwoNodes (timed c) × StreamMaximal L (timed c)
    group_maximal {c} G =
        (t, record { clique = clique_stream G.clique; maximal = λ C' q. subst Free (same_path (clique_row q)) (free (row_from L.nodes C')) q })
      where
        t : TwoNodes (timed c)
        t = clique_two G.clique

        Free : Timed → Type 0
        Free C' = StreamClique L C' → (Same (timed c) C' → ⊥) → Contained (timed c) C' → ⊥

        free : (d : Row) → Free (timed d)
        free d q o i =
            G.maximal d
            (stream_clique (record { one = t.one; other = t.other; differ = t.differ; one_in = i.nodes t.one t.one_in; other_in = i.nodes t.other t.other_in }) q)
            (record { inside = contained_inside i; differ = λ e. o (same_timed e) })

    -- a maximal clique of the paper with at least two nodes, written as a row, is a group
    pub maximal_group : {c : Row} → TwoNodes (timed c) → StreamMaximal L (timed c) → Group (FamilyOf L) L.nodes c
    maximal_group t M =
        record {
          clique = stream_clique t M.clique;
          maximal = λ d q s. M.maximal (timed d) (clique_stream q) (λ e. s.differ (timed_same e)) (inside_contained s.inside);
        }

    -- and every maximal clique of the paper with at least two nodes can be written as a row, which is a group
    pub maximal_row : {C : Timed} → TwoNodes C → StreamMaximal L C → (c : Row) × Group (FamilyOf L) L.nodes c × Same (timed c) C
    maximal_row {C} t M =
        let s = clique_row M.clique in
        let p = sym (same_path s) in
        (row_from L.nodes C, maximal_group (subst TwoNodes p t) (subst (λ (D : Timed). StreamMaximal L D) p M), s)

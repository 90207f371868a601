-- The list of the groups of a family by computing. Every begin, end and clique of gauges that can be a group's is tried, and what cannot be one step larger is put in order.
-- It is the complete list, so a complete list exists. Assumes nothing.
use mathlib.Core.Bool.{Bool, true, not, ◌&&◌, ◌||◌, decide}
use mathlib.Core.List.{List, ◌++◌, Memᴰ as In}
use mathlib.Core.List.Memᴰ.{append_cases}
use mathlib.Core.List.Memᴰ.{append_left}
use mathlib.Core.List.Memᴰ.{append_right}
use mathlib.Core.Logic.{◌⊎◌, inl, inr, ⊎_elim, dite}
use mathlib.Core.Path.{◌≡◌, refl, sym, subst}
use Prim.Native.Nat.{ℕ, zero, suc, ◌≤◌, ◌<◌}
use native.Mathlib.Nat.{le_refl}
use native.Mathlib.Decide.{ℕ_discrete}
use native.Mathlib.Omega.{arith}
use lib.Dec.{leb, ltb, eqb}
use lib.Count.{ones, ones_in}
use lib.ListN.{length}
use borrow.Author.Tests.{eqb-true, eq-eqb, lt-ltb, ltb-true, le-leb, leb-true}
use Rattle.gauges.specs.Flags.{Tells}
use Rattle.gauges.specs.Sets.{Member}
use Rattle.gauges.proofs.Flags.{tells_yes, told_true, tells_decide, tells_as, tells_not, tells_and, tells_or, tells_lt, tells_eq}
use Rattle.gauges.proofs.Laws.{ones_in_lem}
use Rattle.cliques.specs.Families.{Family}
use Rattle.cliques.specs.Groups.{Row, Group, Shown}
use Rattle.cliques.specs.Lists.{Listed, Complete}
use Rattle.cliques.proofs.Lawful.{Lawful, Finite}
use Rattle.cliques.proofs.Members.{known_lt}
use Rattle.cliques.proofs.Cliques.{Near, near_same, near_flip, near_up, clique_near, other_member}
use Rattle.cliques.proofs.Local.{Local, group_local, local_group}
use Rattle.cliques.proofs.Lemma3.{group_begins, group_ends}
use Rattle.cliques.proofs.Order.{before_trans, before_or, lt_or, beforeb, tells_before}
use Rattle.cliques.proofs.Tests.{pairs, elem, tells_elem}
use Rattle.cliques.proofs.Sorting.{at_in, in_at, keep, keep_in, in_keep, each, each_in, in_each, picked, picked_in, in_picked, sort, sort_in, in_sort, sort_sorted}
use Rattle.cliques.proofs.Candidates.{rows_by, AllNear, tells_clique, Pool, rows_local, local_rows}
use Rattle.cliques.proofs.OneList.{listed_sound}
use Rattle.cliques.proofs.RowLists.{no_row, row_at, sorted_listed, sort_listed}

-- ---- what computes

-- two gauges that are joined
pub record Edge : Type 0 where
  pub low : ℕ
  pub high : ℕ

-- the edge from u to v
abbrev pub edge : ℕ → ℕ → Edge
edge u v = record { low = u; high = v }

-- the partner of k in an edge, if k is in it
abbrev pub partner : ℕ → Edge → List ℕ
partner k p = keep (eqb k p.low) p.high ++ keep (eqb k p.high) p.low

-- the gauges that are in an edge with k
abbrev pub partners : ℕ → List Edge → List ℕ
partners k ps = each (partner k) ps

-- k and v are the gauges of an edge, or one gauge
abbrev pub linked : List Edge → ℕ → ℕ → Bool
linked ps k =
    let n = partners k ps in
    λ v. let r = elem v n in eqb k v || r

-- the gauges of an edge that are below g
abbrev pub two_of : ℕ → Edge → List ℕ
two_of g p = keep (ltb p.low g) p.low ++ keep (ltb p.high g) p.high

-- the gauges below g that are in an edge, in order
abbrev pub gauges_in : ℕ → List Edge → List ℕ
gauges_in g ps = sort ltb (each (two_of g) ps)

module _ (test : ℕ → ℕ → ℕ → ℕ → Bool) where
  -- the edges between the gauges gs at the hour x
  unfoldable pub edges_at : ℕ → List ℕ → List Edge
  edges_at x gs = each (λ (u : ℕ). each (λ (v : ℕ). let t = test u v x x in keep (ltb u v && t) (edge u v)) gs) gs

  -- those of the edges that are joined throughout [x, y]
  abbrev pub over : ℕ → ℕ → List Edge → List Edge
  over x y ps = picked (λ (p : Edge). test p.low p.high x y) ps

  -- the gauges of l are not all near one another from an hour before x
  unfoldable pub early : ℕ → ℕ → List Edge → List ℕ → Bool
  early zero y ps = λ l. true
  early (suc z) y ps = let f = linked (over z y ps) in λ l. not (pairs f l)

  -- the groups over [x, y], by the edges at x
  unfoldable pub rows_at : ℕ → List Edge → ℕ → ℕ → List Row
  unfolding early rows_by
  rows_at g ps x y =
      let now = over x y ps in
      let f = linked now in
      let e = linked (over x (suc y) ps) in
      rows_by (early x y ps) f e (gauges_in g now) x y

  -- the groups over the spans with a begin of bs and an end of es
  unfoldable pub rows_over : ℕ → List ℕ → List ℕ → List ℕ → List Row
  unfolding rows_at edges_at
  rows_over g gs bs es = each (λ (x : ℕ). let ps = edges_at x gs in each (rows_at g ps x) (picked (leb x) es)) bs

  -- the same in order
  unfoldable pub list_by : ℕ → List ℕ → List ℕ → List ℕ → List Row
  unfolding rows_over
  list_by g gs bs es = sort beforeb (rows_over g (sort ltb gs) (sort ltb bs) (sort ltb es))

-- the list of the groups of a family
unfoldable pub list_of : {J : Family} → Lawful J → Finite J → ℕ → List Row
unfolding list_by decide
list_of L F g = list_by (λ (u v x y : ℕ). decide (L.decided u v x y)) g F.gauges F.begins F.ends

-- ---- the pairs that are joined throughout a span

-- ps has an edge for each pair that is joined throughout [x, y], and no other
record Graph (J : Family) (x y : ℕ) (ps : List Edge) : Type 0 where
  every : (u v : ℕ) → u < v → J u v x y → In (edge u v) ps
  rising : (p : Edge) → In p ps → p.low < p.high
  joined : (p : Edge) → In p ps → J p.low p.high x y

-- the partners of k are those in an edge with k
in_partners : (k v : ℕ) (ps : List Edge) → In v (partners k ps) → In (edge k v) ps ⊎ In (edge v k) ps
in_partners k v ps i =
    let w = in_each (partner k) ps i in
    let p : Edge = w.0 in
    ⊎_elim
    (λ j. let s = in_keep (eqb k p.low) p.high j in
    inl (subst (λ (q : Edge). In q ps) (sym (λ t. edge (eqb-true k p.low s.0 t) (s.1 t))) w.1))
    (λ j. let s = in_keep (eqb k p.high) p.low j in
    inr (subst (λ (q : Edge). In q ps) (sym (λ t. edge (s.1 t) (eqb-true k p.high s.0 t))) w.1))
    (append_cases (keep (eqb k p.low) p.high) w.2)

-- and all of them, ..
partners_low : (k v : ℕ) {ps : List Edge} → In (edge k v) ps → In v (partners k ps)
partners_low k v i = each_in (partner k) i (append_left (keep (eqb k v) k) (keep_in (eqb k k) v (eq-eqb k k refl)))

-- whichever is the lower
partners_high : (k v : ℕ) {ps : List Edge} → In (edge v k) ps → In v (partners k ps)
partners_high k v i = each_in (partner k) i (append_right (keep (eqb k v) k) (keep_in (eqb k k) v (eq-eqb k k refl)))

module _ {J : Family} {x y : ℕ} {ps : List Edge} (G : Graph J x y ps) where
  -- two different gauges that are near are those of an edge, in one order or the other
  near_edge : (k v : ℕ) → (k ≡ v → ⊥) → Near J x y k v → In (edge k v) ps ⊎ In (edge v k) ps
  near_edge k v o n =
      ⊎_elim (λ h. inl (G.every k v h (n.up h))) (⊎_elim (λ e. absurd (o e)) (λ h. inr (G.every v k h (n.down h)))) (lt_or k v)

  -- and the gauges of an edge are near
  edge_near : (k v : ℕ) → In (edge k v) ps → Near J x y k v
  edge_near k v i = near_up (G.rising (edge k v) i) (G.joined (edge k v) i)

  -- so nearness is told by the edges
  tells_linked : (k v : ℕ) → Tells (linked ps k v) (Near J x y k v)
  tells_linked k v =
      tells_as
      (⊎_elim (λ e. subst (Near J x y k) e (near_same x y k)) (λ i. ⊎_elim (edge_near k v) (λ j. near_flip x y v k (edge_near v k j)) (in_partners k v ps i)))
      (λ n. dite (ℕ_discrete k v) inl (λ o. inr (⊎_elim (partners_low k v) (partners_high k v) (near_edge k v o n))))
      (tells_or (tells_eq k v) (tells_elem v (partners k ps)))

  -- and the gauges of the edges are those that can be a clique's
  edges_pool : (g : ℕ) → Pool J g x y (gauges_in g ps)
  edges_pool g =
      record {
        below = λ k i.
            let w = in_each (two_of g) ps (in_sort tells_lt lt_or (each (two_of g) ps) i) in
            let p : Edge = w.0 in
            ⊎_elim (λ j. let s = in_keep (ltb p.low g) p.low j in omega (arith, ltb-true p.low g s.0, s.1))
            (λ j. let s = in_keep (ltb p.high g) p.high j in omega (arith, ltb-true p.high g s.0, s.1))
            (append_cases (keep (ltb p.low g) p.low) w.2);
        known = λ k v h o n. sort_in tells_lt lt_or (each (two_of g) ps) (⊎_elim
            (λ i. each_in (two_of g) i (append_left (keep (ltb v g) v) (keep_in (ltb k g) k (lt-ltb k g h))))
            (λ i. each_in (two_of g) i (append_right (keep (ltb v g) v) (keep_in (ltb k g) k (lt-ltb k g h))))
            (near_edge k v o n));
      }

-- what is in a list of numbers is in it when it is in order
in_order : {n : ℕ} {l : List ℕ} → In n l → In n (sort ltb l)
in_order {l = l} i = sort_in tells_lt lt_or l i

module _ {J : Family} {test : ℕ → ℕ → ℕ → ℕ → Bool} (T : (u v x y : ℕ) → Tells (test u v x y) (J u v x y)) (L : Lawful J) (F : Finite J) where
  -- the edges at an hour have all that are joined throughout a span with that hour
  over_graph : (x : ℕ) {x' y' : ℕ} → x' ≤ x → x ≤ y' → Graph J x' y' (over test x' y' (edges_at test x (sort ltb F.gauges)))
  unfolding edges_at
  over_graph x {x'} {y'} h k =
      record {
        every = λ u v l j. picked_in joined' (told_true (T u v x' y') j)
            (each_in (λ (a : ℕ). each (found a) gs) (in_order (F.one_known j)) (each_in (found u) (in_order (F.other_known j))
            (keep_in (ltb u v && test u v x x) (edge u v) (told_true (tells_and (tells_lt u v) (T u v x x)) (l, L.narrows h (le_refl x) k j)))));
        rising = λ p i.
            let w = in_each (λ (a : ℕ). each (found a) gs) gs (in_picked joined' ps i).1 in
            let v = in_each (found w.0) gs w.2 in
            let s = in_keep (ltb w.0 v.0 && test w.0 v.0 x x) (edge w.0 v.0) v.2 in
            subst (λ (q : Edge). q.low < q.high) (sym s.1) ((tells_and (tells_lt w.0 v.0) (T w.0 v.0 x x)).holds s.0).0;
        joined = λ p i. (T p.low p.high x' y').holds (in_picked joined' ps i).0;
      }
    where
      gs : List ℕ
      gs = sort ltb F.gauges

      ps : List Edge
      ps = edges_at test x gs

      joined' : Edge → Bool
      joined' p = test p.low p.high x' y'

      found : ℕ → ℕ → List Edge
      found u v = keep (ltb u v && test u v x x) (edge u v)

  -- whether a clique is one from an hour earlier
  tells_early : (x y : ℕ) → x ≤ y → (l : List ℕ) → Tells (early test x y (edges_at test x (sort ltb F.gauges)) l) ((z : ℕ) → suc z ≡ x → AllNear J z y l → ⊥)
  unfolding early
  tells_early zero y s l = tells_yes (λ z h. absurd (omega arith))
  tells_early (suc x) y s l =
      tells_as
      (λ f z h n. f (subst (λ (w : ℕ). AllNear J w y l) (omega arith) n))
      (λ f. f x refl)
      (tells_not (tells_clique (tells_linked (over_graph (suc x) (omega arith) s)) l))

  -- ---- the list has the rows that cannot be one step larger, and no other

  module _ {g : ℕ} {c : Row} where
    -- over one span: no row can be one step larger, ..
    span_local : (x y : ℕ) → x ≤ y → In c (rows_at test g (edges_at test x (sort ltb F.gauges)) x y) → Local J g c
    unfolding rows_at
    span_local x y s i =
        let now = over_graph x (le_refl x) s in
        rows_local (edges_pool now g) s (tells_early x y s) (tells_linked now) (tells_linked (over_graph x (le_refl x) (omega arith))) i

    -- and each that cannot is there
    local_span : Local J g c → In c (rows_at test g (edges_at test c.begin (sort ltb F.gauges)) c.begin c.end)
    unfolding rows_at
    local_span C =
        let x : ℕ = c.begin in
        let s = C.clique.span in
        let now = over_graph x (le_refl x) s in
        local_rows (edges_pool now g) s (tells_early x c.end s) (tells_linked now) (tells_linked (over_graph x (le_refl x) (omega arith))) c.members C

    -- no row of the whole list can be one step larger
    list_local : In c (list_by test g F.gauges F.begins F.ends) → Local J g c
    unfolding list_by
    list_local i =
        let gs : List ℕ = sort ltb F.gauges in
        let bs : List ℕ = sort ltb F.begins in
        let es : List ℕ = sort ltb F.ends in
        let w = in_each (λ (a : ℕ). each (rows_at test g (edges_at test a gs) a) (picked (leb a) es)) bs (in_sort tells_before before_or (rows_over test g gs bs es) i) in
        let v = in_each (rows_at test g (edges_at test w.0 gs) w.0) (picked (leb w.0) es) w.2 in
        span_local w.0 v.0 (leb-true w.0 v.0 (in_picked (leb w.0) es v.1).0) v.2

    -- and each row that cannot be one step larger is in it, if its begin and end are known
    local_list : Local J g c → In c.begin F.begins → In c.end F.ends → In c (list_by test g F.gauges F.begins F.ends)
    unfolding list_by
    local_list C b e =
        let gs : List ℕ = sort ltb F.gauges in
        let bs : List ℕ = sort ltb F.begins in
        let es : List ℕ = sort ltb F.ends in
        let x : ℕ = c.begin in
        sort_in tells_before before_or (rows_over test g gs bs es)
        (each_in (λ (a : ℕ). each (rows_at test g (edges_at test a gs) a) (picked (leb a) es)) (in_order b)
        (each_in (rows_at test g (edges_at test x gs) x) (picked_in (leb x) (le-leb x c.end C.clique.span) (in_order e)) (local_span C)))

-- ---- the theorems

module _ {J : Family} {g : ℕ} {c : Row} (L : Lawful J) (F : Finite J) (G : Group J g c) where
  -- a group begins at a known begin, ..
  pub group_begin : In c.begin F.begins
  group_begin = let p = group_begins L G in F.begin_known (G.clique.joined p.one p.other p.one_in p.other_in p.less) p.is

  -- ends at a known end, ..
  pub group_end : In c.end F.ends
  group_end = let p = group_ends L G in F.end_known (G.clique.joined p.one p.other p.one_in p.other_in p.less) p.is

  -- and has known gauges
  pub group_gauge : (k : ℕ) → Member k c.members → In k F.gauges
  group_gauge k m =
      let w = other_member G.clique k in
      let n = clique_near G.clique k w.0 m w.2 in
      ⊎_elim (λ h. F.one_known (n.up h)) (⊎_elim (λ e. absurd (w.1 e)) (λ h. F.other_known (n.down h))) (lt_or k w.0)

-- the list that is made by a test of joined spans is complete
pub list_by_complete : {J : Family} {test : ℕ → ℕ → ℕ → ℕ → Bool} → ((u v x y : ℕ) → Tells (test u v x y) (J u v x y)) → Lawful J → (F : Finite J) (g : ℕ)
    → let rs = list_by test g F.gauges F.begins F.ends in
    Complete J g (row_at rs) (length rs)
unfolding list_by
list_by_complete {test = test} T L F g =
    sorted_listed
    (sort_sorted tells_before before_or (λ a b c. before_trans) (rows_over test g (sort ltb F.gauges) (sort ltb F.begins) (sort ltb F.ends)))
    (λ c i. local_group L (list_local T L F i))
    (λ c G. local_list T L F (group_local G) (group_begin L F G) (group_end L F G))

module _ {J : Family} (L : Lawful J) (F : Finite J) (g : ℕ) where
  -- the list of the groups of a lawful family is complete
  pub list_complete : Complete J g (row_at (list_of L F g)) (length (list_of L F g))
  unfolding list_of
  list_complete = list_by_complete (λ u v x y. tells_decide (L.decided u v x y)) L F g

  -- those of the groups that have at least so many gauges, in order
  unfoldable pub shown_of : ℕ → List Row
  unfolding list_of ones_in
  shown_of least = sort beforeb (picked (λ (c : Row). leb least (ones_in g c.members)) (list_of L F g))

  -- a group is in the list
  in_list_group : {c : Row} → In c (list_of L F g) → Group J g c
  in_list_group i = let w = in_at no_row i in listed_sound list_complete w

  group_in_list : {c : Row} → Group J g c → In c (list_of L F g)
  group_in_list {c} G =
      let w = list_complete.complete c G in
      subst (λ (d : Row). In d (list_of L F g)) w.2 (at_in (list_of L F g) w.0 no_row w.1)

  -- they are all of them
  pub shown_listed : (least : ℕ) → Listed (Shown J g least) (row_at (shown_of least)) (length (shown_of least))
  unfolding shown_of
  shown_listed least =
      sort_listed (picked large (list_of L F g))
      (λ c i.
      let w = in_picked large (list_of L F g) i in
      let G = in_list_group w.1 in
      record { group = G; large = omega (arith, leb-true least (ones_in g c.members) w.0, counted G) })
      (λ c s. picked_in large (le-leb least (ones_in g c.members) (omega (arith, s.large, counted s.group))) (group_in_list s.group))
    where
      large : Row → Bool
      large c = leb least (ones_in g c.members)

      counted : {c : Row} → Group J g c → ones_in g c.members ≡ ones c.members
      counted {c} G = ones_in_lem g c.members (known_lt c.members g G.clique.known)

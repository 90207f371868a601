-- The groups of one span are the maximal sets of its graph, within the gauges that matter, that have a pair whose run begins with the span and a pair whose
-- run ends with it. So what the search wants at the root is just what is to be shown. Assumes nothing.
use mathlib.Core.Logic.{◌⊎◌, inl, inr, ⊎_elim, dite}
use mathlib.Core.Path.{◌≡◌, refl, sym, ap, subst, ◌∙◌}
use mathlib.Core.List.{List}
use Prim.Native.Nat.{ℕ, ◌≤◌, ◌<◌}
use native.Mathlib.Nat.{le_refl, le_trans, le_of_eq}
use native.Mathlib.Decide.{ℕ_discrete, dec_lt}
use native.Mathlib.Omega.{arith}
use Rattle.std.specs.Prelude.{Result}
use lib.Bits.{bit_and, bit_or}
use lib.Count.{ones}
use Rattle.std.specs.List.{Contains}
use Rattle.std.proofs.lemmas.List.Elements.{All-contains}
use Rattle.gauges.specs.Sets.{Member, Within, Only}
use Rattle.gauges.proofs.Laws.{member_dec, member_zero, or_left, or_right, or_cases, and_in, and_left, and_right, ones_two}
use Rattle.links.specs.Spans.{Spans}
use Rattle.links.specs.Links.{count, begins, ends, one, other, Of, in_order, turned, Covers, Covered}
use Rattle.links.proofs.Pairs.{of_sym, covers_sym, covers_clash, covered_sym, covered_narrow}
use Rattle.cliques.specs.Groups.{Row, Clique, Group}
use Rattle.sweep.specs.declared.store.Full.{Full}
use Rattle.sweep.specs.Store.{Held, Tidy, Grown, Loose, Added, Adds, Unseen}
use Rattle.sweep.specs.Near.{near, Graph, Linked, CliqueIn, HasPair}
use Rattle.sweep.specs.Search.{Worth, Node, Best, Wanted}
use Rattle.sweep.specs.declared.search.Sought.{Sought}
use Rattle.sweep.specs.Lines.{IsRun}
use Rattle.sweep.specs.declared.line.Run.{Run}
use Rattle.sweep.specs.declared.graph.Inner.{Inner}
use Rattle.sweep.specs.declared.graph.Inner.TheVariants.{NoRun}
use Rattle.sweep.specs.Graphs.{Shows, Drawn, Gauged, PairIn, Alone, Counted}
use Rattle.sweep.specs.Spans.{ShownOver, Begun, AtSpan}
use Rattle.sweep.specs.Shown.{Shown}
use Rattle.cliques.proofs.Rows.{same_row}
use Rattle.sweep.proofs.Stores.{grown_none, grown_as}
use Rattle.sweep.proofs.Adds.{adds_as, none_added}
use Rattle.cliques.proofs.TableLinks.{CoveredPair, FirstLink, LastLink, Filled, clique_covered, group_first_link, group_last_link, group_filled, linked_group}

-- ---- tables

module _ {t : List ℕ} (A : Spans t) where
  -- the gauges of a link are two gauges below 64
  of_known : {i u v : ℕ} → i < count t → Of t i u v → u < 64
  of_known {i} h (in_order p q) = omega (arith, A.known_one i h)
  of_known {i} h (turned p q) = omega (arith, A.known_other i h)

  of_two : {i u v : ℕ} → i < count t → Of t i u v → u ≡ v → ⊥
  of_two {i} h (in_order p q) e = A.two i h (p ∙ e ∙ sym q)
  of_two {i} h (turned p q) e = A.two i h (p ∙ sym e ∙ sym q)

  covered_two : {u v x y : ℕ} → Covered t u v x y → u ≡ v → ⊥
  covered_two j = of_two j.covers.there j.covers.pair

  -- a run that begins at x, of a pair that is covered throughout [x, y], is the one that covers it: a pair has one run at an hour
  begun_link : {u v x y : ℕ} → Begun t x u v → (j : Covered t u v x y) → begins t j.link ≡ x
  begun_link {u} {v} {x} B j = dite (ℕ_discrete B.link j.link)
      (λ e. ap (begins t) (sym e) ∙ B.is)
      (λ d. absurd (A.apart B.link j.link B.there j.covers.there d (covers_clash own j.covers x (le_refl x) (le_refl x) (le_refl x) j.covers.span)))
    where
      own : Covers t u v x x B.link
      own =
          record {
            there = B.there;
            pair = B.pair;
            span = le_refl x;
            from = le_of_eq B.is;
            upto = le_trans (le_of_eq (sym B.is)) (A.forward B.link B.there);
          }

-- two different gauges of a set and a link of theirs, lower gauge first
covered : {t : List ℕ} {u v i : ℕ} (c : Row) → Member u c.members → Member v c.members → (u ≡ v → ⊥)
    → Covers t u v c.begin c.end i → (p : CoveredPair t c) × (p.link ≡ i)
covered {u = u} {v = v} {i = i} c p q d w = dite (dec_lt u v)
    (λ l. (record { one = u; other = v; less = l; one_in = p; other_in = q; link = i; covers = w }, refl))
    (λ l. (record { one = v; other = u; less = omega arith; one_in = q; other_in = p; link = i; covers = covers_sym w }, refl))

-- ---- the graph of the span

-- where the search starts: every gauge that matters and that could be added to r may join it
pub record Root (adj : List ℕ) (wide r p : ℕ) : Type 0 where
  pub node : Node adj r p 0
  pub fits : (k : ℕ) → Member k wide → Linked adj k r → (Member k r → ⊥) → Member k p

-- ---- the two roots

root_all : (adj : List ℕ) (wide : ℕ) → Root adj wide 0 wide
root_all adj wide =
    record {
      node = record {
        clique = record { pairs = λ i j h. absurd (member_zero i h) };
        linked = λ v h. record { all = λ i q. absurd (member_zero i q) };
      };
      fits = λ k h l f. h;
    }

-- u and v are linked, ou and ov are their sets, nu and nv the gauges that they are linked to
root_pair : {adj : List ℕ} {u v ou ov nu nv : ℕ} (wide : ℕ) → Graph adj → Member v (near adj u) → u < 64 → v < 64
    → Only u ou → Only v ov → nu ≡ near adj u → nv ≡ near adj v → Root adj wide (bit_or ou ov) (bit_and (bit_and nu nv) wide)
root_pair {adj} {u} {v} {ou} {ov} {nu} {nv} wide G h lu lv ru rv eu ev =
    record {
      node = record { clique = record { pairs = λ i j p q d. pair i j (which i p) (which j q) d }; linked = λ k w. record { all = λ i p. near_both k w i (which i p) } };
      fits = λ k m l f. and_in (bit_and nu nv) wide k (and_in nu nv k
          (subst (Member k) (sym eu) (l.all u (or_left ou ov u (ru.there lu))))
          (subst (Member k) (sym ev) (l.all v (or_right ou ov v (rv.there lv))))) m;
    }
  where
    which : (i : ℕ) → Member i (bit_or ou ov) → (i ≡ u) ⊎ (i ≡ v)
    which i p = ⊎_elim (λ q. inl (ru.just i q)) (λ q. inr (rv.just i q)) (or_cases ou ov i p)

    back : Member u (near adj v)
    back = G.symmetric u v h

    pair : (i j : ℕ) → (i ≡ u) ⊎ (i ≡ v) → (j ≡ u) ⊎ (j ≡ v) → (i ≡ j → ⊥) → Member j (near adj i)
    pair i j (inl p) (inl q) d = absurd (d (p ∙ sym q))
    pair i j (inl p) (inr q) d = subst (λ (n : ℕ). Member j (near adj n)) (sym p) (subst (λ (n : ℕ). Member n (near adj u)) (sym q) h)
    pair i j (inr p) (inl q) d = subst (λ (n : ℕ). Member j (near adj n)) (sym p) (subst (λ (n : ℕ). Member n (near adj v)) (sym q) back)
    pair i j (inr p) (inr q) d = absurd (d (p ∙ sym q))

    near_both : (k : ℕ) → Member k (bit_and (bit_and nu nv) wide) ⊎ Member k 0 → (i : ℕ) → (i ≡ u) ⊎ (i ≡ v) → Member k (near adj i)
    near_both k (inr z) i w = absurd (member_zero k z)
    near_both k (inl m) i (inl p) = subst (λ (n : ℕ). Member k (near adj n)) (sym p) (subst (Member k) eu (and_left nu nv k (and_left (bit_and nu nv) wide k m)))
    near_both k (inl m) i (inr p) = subst (λ (n : ℕ). Member k (near adj n)) (sym p) (subst (Member k) ev (and_right nu nv k (and_left (bit_and nu nv) wide k m)))

-- where the search for the groups of the span [x, y] may start: a root whose clique each of these groups holds
pub record Start (t : List ℕ) (x y : ℕ) (adj : List ℕ) (wide : ℕ) (n : ℕ × ℕ) : Type 0 where
  pub root : Root adj wide n.0 n.1
  pub held : (least : ℕ) (c : Row) → ShownOver t least x y c → Within n.0 c.members

pub all_start : (t : List ℕ) (x y : ℕ) (adj : List ℕ) (wide : ℕ) → Start t x y adj wide (0, wide)
unfolding Within
all_start t x y adj wide = record { root = root_all adj wide; held = λ least c s k h. absurd (member_zero k h) }

-- ---- a span

module _ {t part adj fresh : List ℕ} {x y wide : ℕ} (S : AtSpan t part x y adj fresh wide) where
  pub span_graph : Graph adj
  span_graph =
      record {
        sized = S.graph.sized;
        symmetric = λ i j h. S.graph.full j i (covered_sym (S.graph.sound i j h));
        loopless = λ i h. covered_two S.table (S.graph.sound i i h) refl;
      }

  -- the row of a set over the span
  abbrev over : ℕ → Row
  over m = record { begin = x; end = y; members = m }

  -- the runs that end with the span join their gauges throughout it
  ending_at : {r : ℕ} → Contains part r → ends t r ≡ y
  ending_at {r} w = All-contains (λ (s : ℕ). ends t s ≡ y) part r S.ending w

  ending_covers : {u v r : ℕ} → Contains part r → Of t r u v → Covers t u v x y r
  ending_covers {r = r} w o =
      record {
        there = (All-contains (Gauged t) part r S.drawable.each w).known;
        pair = o;
        span = S.span;
        from = All-contains (λ (s : ℕ). begins t s ≤ x) part r S.begun w;
        upto = le_of_eq (sym (ending_at w));
      }

  -- ---- what is to be shown is wanted

  module _ {m : ℕ} (G : Group (Covered t) 64 (over m)) where
    first : FirstLink t (over m)
    first = group_first_link G

    last : LastLink t (over m)
    last = group_last_link G

    first_begun : Begun t x first.pair.one first.pair.other
    first_begun = record { link = first.pair.link; there = first.pair.covers.there; pair = first.pair.covers.pair; is = first.first }

    begun_turned : {u v : ℕ} → Begun t x u v → Begun t x v u
    begun_turned B = record { link = B.link; there = B.there; pair = of_sym B.pair; is = B.is }

    -- every gauge of a group matters
    pub group_wide : (k : ℕ) → Member k m → Member k wide
    group_wide k h = dite (ℕ_discrete k first.pair.one)
        (λ e. subst (λ (g : ℕ). Member g wide) (sym e) (S.reach.both first.pair.one first.pair.other first_begun))
        (λ d. dite (ℕ_discrete k first.pair.other)
        (λ e. subst (λ (g : ℕ). Member g wide) (sym e) (S.reach.both first.pair.other first.pair.one (begun_turned first_begun)))
        (λ f. S.reach.further first.pair.one first.pair.other k first_begun
        (at_begin first.pair.one first.pair.one_in (λ e. d (sym e)))
        (at_begin first.pair.other first.pair.other_in (λ e. f (sym e)))))
      where
        at_begin : (u : ℕ) → Member u m → (u ≡ k → ⊥) → Covered t u k x x
        at_begin u q d = covered_narrow (le_refl x) (le_refl x) S.span (clique_covered G.clique u k q h d)

    -- the last link of a group is one of the runs that end with the span
    group_ending : Drawn t part last.pair.one last.pair.other
    group_ending =
        let k = last.pair.covers in
        record { run = last.pair.link; there = S.all last.pair.link k.there k.from last.last; pair = k.pair }

    -- so both gauges of one of those runs are in the group
    pub group_inner : (r : ℕ) × Contains part r × PairIn t r m
    group_inner = let w = group_ending in (w.run, w.there, both w.pair)
      where
        both : {r : ℕ} → Of t r last.pair.one last.pair.other → PairIn t r m
        both (in_order p q) =
            record { one_in = subst (λ (g : ℕ). Member g m) (sym p) last.pair.one_in; other_in = subst (λ (g : ℕ). Member g m) (sym q) last.pair.other_in }
        both (turned p q) =
            record { one_in = subst (λ (g : ℕ). Member g m) (sym p) last.pair.other_in; other_in = subst (λ (g : ℕ). Member g m) (sym q) last.pair.one_in }

    group_best : {r p : ℕ} → Root adj wide r p → Within r m → Best adj r p 0 m
    unfolding Within
    group_best {r} {p} R sub =
        record {
          clique = clique;
          holds = sub;
          others = λ v h. dite (member_dec v r) inl
              (λ f. inr (R.fits v (group_wide v h) (record { all = λ i q. clique.pairs i v (sub i q) h (λ e. f (subst (λ (g : ℕ). Member g r) e q)) }) f));
          maximal = λ v w l. (group_filled G).no_further v (known v l) (λ h. span_graph.loopless v (l.all v h)) (λ u q. S.graph.sound u v (l.all u q));
        }
      where
        clique : CliqueIn adj m
        clique = record { pairs = λ i j h l d. S.graph.full i j (clique_covered G.clique i j h l d) }

        known : (v : ℕ) → Linked adj v m → v < 64
        known v l =
            let j = S.graph.sound _ v (l.all first.pair.one first.pair.one_in) in
            of_known S.table j.covers.there (of_sym j.covers.pair)

  -- the group of a row that is to be shown, over the span
  shown_group : {least : ℕ} {c : Row} → ShownOver t least x y c → Group (Covered t) 64 (over c.members)
  shown_group s = subst (Group (Covered t) 64) (same_row s.from s.upto refl) s.shown.group

  -- both gauges of a run that ends with the span are in the group, and matter
  inner_wide : {least : ℕ} {c : Row} → ShownOver t least x y c → (r : ℕ) × Contains part r × PairIn t r c.members × PairIn t r wide
  inner_wide s =
      let G = shown_group s in
      let w = group_inner G in
      (w.0, w.1, w.2, record { one_in = group_wide G _ w.2.one_in; other_in = group_wide G _ w.2.other_in })

  -- no run that ends with the span matters: there is no group
  none_shown : {inner : Inner} {least : ℕ} → Counted t part wide inner → inner ≡ NoRun → (c : Row) → ShownOver t least x y c → ⊥
  none_shown C e c s = let w = inner_wide s in All-contains (λ (r : ℕ). PairIn t r wide → ⊥) part w.0 (C.none e) w.1 w.3

  pub span_none : {inner : Inner} {least : ℕ} → Counted t part wide inner → inner ≡ NoRun → {out : List ℕ} {f : ℕ} → Loose out f
      → Added (ShownOver t least x y) (ShownOver t least x y) out f out f
  span_none C e T = none_added T (none_shown C e)

  -- so the rows are as they are to be
  pub span_still : {inner : Inner} {least : ℕ} → Counted t part wide inner → inner ≡ NoRun → {out : List ℕ} {f : ℕ} → Tidy out f
      → Grown (ShownOver t least x y) (ShownOver t least x y) out f out f
  span_still C e T = grown_as (grown_none T) (λ c s. s) (λ c s. absurd (none_shown C e c s))

  -- r alone does: its two gauges are linked, and the search may start from them
  pub alone_known : {r : ℕ} → Alone t part wide r → r < count t
  alone_known L = (ending_covers L.there (in_order refl refl)).there

  module _ {r : ℕ} (L : Alone t part wide r) {run : Run} (is : IsRun t r run) where
    pub alone_below : (run.one < 64) × (run.other < 64)
    alone_below = (omega (arith, is.one, S.table.known_one r (alone_known L)), omega (arith, is.other, S.table.known_other r (alone_known L)))

    -- the search starts from them
    pub one_start : {ou ov nu nv : ℕ} → Only run.one ou → Only run.other ov → nu ≡ near adj run.one → nv ≡ near adj run.other
        → Start t x y adj wide (bit_or ou ov, bit_and (bit_and nu nv) wide)
    unfolding Within
    one_start {ou} {ov} ru rv eu ev =
        record {
          root = root_pair wide span_graph (S.graph.full run.one run.other joined) alone_below.0 alone_below.1 ru rv eu ev;
          held = λ least c s k h.
              let w = inner_wide s in
              let same = All-contains (λ (q : ℕ). PairIn t q wide → q ≡ r) part w.0 L.only w.1 w.3 in
              ⊎_elim
              (λ q. subst (λ (j : ℕ). Member j c.members) (ap (one t) same ∙ sym is.one ∙ sym (ru.just k q)) w.2.one_in)
              (λ q. subst (λ (j : ℕ). Member j c.members) (ap (other t) same ∙ sym is.other ∙ sym (rv.just k q)) w.2.other_in)
              (or_cases ou ov k h);
        }
      where
        joined : Covered t run.one run.other x y
        joined = record { link = r; covers = ending_covers L.there (in_order (sym is.one) (sym is.other)) }

  module _ {ending : List ℕ} (E : Shows ending (Drawn t part)) where
    -- ---- what is wanted is to be shown

    module _ {m : ℕ} (Q : CliqueIn adj m) (F : HasPair fresh m) (L : HasPair ending m) where
      begun_pair : Begun t x F.one F.other
      begun_pair = S.freshly.sound F.one F.other F.linked

      differ : F.one ≡ F.other → ⊥
      differ = of_two S.table begun_pair.there begun_pair.pair

      covered_in : (u v : ℕ) → Member u m → Member v m → (u ≡ v → ⊥) → Covered t u v x y
      covered_in u v p q d = S.graph.sound u v (Q.pairs u v p q d)

      set_known : (k : ℕ) → Member k m → k < 64
      set_known k h = dite (ℕ_discrete k F.one)
          (λ e. let l = of_known S.table begun_pair.there begun_pair.pair in omega arith)
          (λ d. let j = covered_in k F.one h F.one_in d in of_known S.table j.covers.there j.covers.pair)

      set_clique : Clique (Covered t) 64 (over m)
      set_clique =
          record {
            span = S.span;
            known = set_known;
            two = ones_two F.one F.other m differ F.one_in F.other_in;
            joined = λ u v p q l. covered_in u v p q (λ e. omega arith);
          }

      set_first : FirstLink t (over m)
      set_first =
          let j = covered_in F.one F.other F.one_in F.other_in differ in
          let w = covered (over m) F.one_in F.other_in differ j.covers in
          record { pair = w.0; first = ap (begins t) w.1 ∙ begun_link S.table begun_pair j }

      set_last : LastLink t (over m)
      set_last =
          let d = E.sound L.one L.other L.linked in
          let k = ending_covers d.there d.pair in
          let w = covered (over m) L.one_in L.other_in (of_two S.table k.there k.pair) k in
          record { pair = w.0; last = ap (ends t) w.1 ∙ ending_at d.there }

      -- a further gauge that fits matters: it is covered with both gauges of the pair whose run begins with the span
      fitting_wide : (k : ℕ) → Linked adj k m → Member k wide
      fitting_wide k l = S.reach.further F.one F.other k begun_pair (at_begin F.one F.one_in) (at_begin F.other F.other_in)
        where
          at_begin : (u : ℕ) → Member u m → Covered t u k x x
          at_begin u h = covered_narrow (le_refl x) (le_refl x) S.span (S.graph.sound u k (l.all u h))

-- where no row of the span is found yet, none is found that the search wants
pub unseen_absent : {adj : List ℕ} {W : Sought} {r p q : ℕ} {out : List ℕ} {f : ℕ} → Unseen out f W.begin W.end
    → (c : Row) → Wanted adj W r p q c → Held out f c → ⊥
unseen_absent u c w = u.unseen c w.from w.upto

-- ---- the search for the groups of a span

module _ (W : Sought) {t part adj : List ℕ} {wide : ℕ} (S : AtSpan t part W.begin W.end adj W.fresh.now.near wide) (E : Shows W.ending.now.near (Drawn t part)) where
  -- what is wanted is to be shown
  wanted_shown : {r p : ℕ} {c : Row} → Root adj wide r p → Wanted adj W r p 0 c → Shown t W.least c
  unfolding Within
  wanted_shown {r = r} {c = c} R w =
      let m = c.members in
      let Q = w.best.clique in
      let F = w.worth.begun in
      let L = w.worth.ended in
      let filled : Filled t 64 (over S m) = record {
        no_further = λ k h n all.
            let l : Linked adj k m = record { all = λ i q. S.graph.full i k (all i q) } in
            let below : Linked adj k r = record { all = λ i q. l.all i (w.best.holds i q) } in
            w.best.maximal k (inl (R.fits k (fitting_wide S E Q F L k l) below (λ q. n (w.best.holds k q)))) l;
      } in
      let is : over S m ≡ c = same_row (sym w.from) (sym w.upto) refl in
      record {
        group = subst (Group (Covered t) 64) is (linked_group S.table.apart (set_clique S E Q F L) filled (set_first S E Q F L) (set_last S E Q F L));
        large = w.worth.large;
      }

  -- a group has a pair of either kind
  group_worth : {m : ℕ} (G : Group (Covered t) 64 (over S m)) → W.least ≤ ones m → Worth W m
  group_worth G h =
      let b = (first S G).pair in
      let e = (last S G).pair in
      record {
        large = h;
        begun = record { one = b.one; other = b.other; one_in = b.one_in; other_in = b.other_in; linked = S.freshly.full b.one b.other (first_begun S G) };
        ended = record { one = e.one; other = e.other; one_in = e.one_in; other_in = e.other_in; linked = E.full e.one e.other (group_ending S G) };
      }

  module _ {n : ℕ × ℕ} (B : Start t W.begin W.end adj wide n) where
    -- a group over the span is wanted where the search starts
    shown_wanted : {c : Row} → ShownOver t W.least W.begin W.end c → Wanted adj W n.0 n.1 0 c
    shown_wanted {c = c} s =
        let G = shown_group S s in
        record { from = s.from; upto = s.upto; best = group_best S G B.root (B.held W.least c s); worth = group_worth G s.shown.large }

    -- so what the search puts there is just what is to be shown
    pub span_adds : (out : List ℕ) (f : ℕ) (out' : List ℕ) (a : Result ℕ Full) → Adds (Wanted adj W n.0 n.1 0) out f out' a
        → Adds (ShownOver t W.least W.begin W.end) out f out' a
    span_adds out f out' = adds_as out f out' (λ c w. record { shown = wanted_shown B.root w; from = w.from; upto = w.upto }) (λ n have c s. have c (shown_wanted s))

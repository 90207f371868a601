-- The groups that begin at one hour, one end after another: the runs that end next are a part of the line, the graph of the pairs covered up to that end is what
-- is left when they are unlinked, and every group ends with one of the runs. Assumes nothing.
use mathlib.Core.Logic.{inl, inr, ⊎_elim, dite}
use mathlib.Core.Path.{◌≡◌, sym, ap, subst, ◌∙◌}
use mathlib.Core.List.{List}
use Prim.Native.Nat.{ℕ, ◌+◌, ◌≤◌, ◌<◌}
use native.Mathlib.Nat.{le_refl, le_trans, le_of_eq, lt_of_le_of_lt, lt_of_lt_of_le, le_of_lt}
use native.Mathlib.Decide.{dec_lt}
use native.Mathlib.Omega.{arith}
use lib.ListN.{length}
use Rattle.std.specs.List.{All, Contains, slice_range}
use Rattle.std.proofs.lemmas.List.Elements.{All-get_or, All-weaker, All-contains}
use Rattle.gauges.specs.Sets.{Member}
use Rattle.links.specs.Spans.{Spans}
use Rattle.links.specs.Links.{count, begins, ends, Of, in_order, turned, Covered}
use Rattle.links.proofs.Pairs.{covers_clash}
use Rattle.cliques.specs.Groups.{Row}
use Rattle.sweep.specs.Store.{Tidy, Grown, Overgrown, Past, BegunBefore, sooner, shorter}
use Rattle.sweep.specs.Lines.{run, Known, Stands, Ended}
use Rattle.sweep.specs.Graphs.{Shows, Lost, Gauged, Drawn, Drawable, PairIn, Around, Reaches, LastEnd}
use Rattle.sweep.specs.Near.{near}
use Rattle.sweep.specs.Spans.{ShownFrom, ShownOver, Begun, Wide, AtSpan, AtHour, AtBegin}
use Rattle.sweep.proofs.Stores.{grown_none, grown_as, grown_trans, overgrown_after}
use Rattle.sweep.proofs.WalkLaws.{Runs, all_part, contains_part, all_contains, all_drawn, drawn_all, lost_runs}
use Rattle.sweep.specs.declared.spans.Hour.{Hour}
use Rattle.cliques.proofs.TableLinks.{group_first_link, group_last_link}

-- a part of a line whose runs are known can be drawn, in a table of spans
pub known_drawable : {t part : List ℕ} → Spans t → All (λ (r : ℕ). r < count t) part → Drawable t part
known_drawable {t} {part} A K =
    record {
      each = All-weaker (λ (r : ℕ). r < count t) (Gauged t)
          (λ r known. record { known = known; one_below = A.known_one r known; other_below = A.known_other r known; two = A.two r known }) part K;
    }

-- a graph shows whatever relation holds of the same gauges
pub shows_as : {adj : List ℕ} {R Q : ℕ → ℕ → Type 0} → ((u v : ℕ) → R u v → Q u v) → ((u v : ℕ) → Q u v → R u v) → Shows adj R → Shows adj Q
shows_as to from s = record { sized = s.sized; sound = λ i j h. to i j (s.sound i j h); full = λ i j q. s.full i j (from i j q) }

-- the row is to be shown, begins at x, and ends with one of the runs from head up to a
pub record EndedBy (t line : List ℕ) (head a x least : ℕ) (c : Row) : Type 0 where
  pub shown : ShownFrom t least x c
  pub place : ℕ
  pub low : head ≤ place
  pub high : place < a
  pub is : ends t (run line place) ≡ c.end

-- what is known before place a: the runs below it end sooner than those from it on, whose graph is adj, and the groups that end with them are found
pub record Ends (t line : List ℕ) (head tail x least a : ℕ) (adj out₀ : List ℕ) (f₀ : ℕ) (out : List ℕ) (f : ℕ) : Type 0 where
  pub low : head ≤ a
  pub high : a ≤ tail
  pub cut : (k m : ℕ) → head ≤ k → k < a → a ≤ m → m < tail → ends t (run line k) < ends t (run line m)
  pub graph : Shows adj (Runs t line a tail)
  pub grown : Grown (EndedBy t line head a x least) (EndedBy t line head a x least) out₀ f₀ out f

-- the runs from a up to b are those of the rest of the line that end next, at y
pub record Next (t line : List ℕ) (a b tail y : ℕ) : Type 0 where
  pub more : a < b
  pub high : b ≤ tail
  pub here : (k : ℕ) → a ≤ k → k < b → ends t (run line k) ≡ y
  pub later : (k : ℕ) → b ≤ k → k < tail → y < ends t (run line k)

module _ {t line adj₀ : List ℕ} {hour : Hour} (H : AtHour t line hour adj₀) where
  abbrev tail : ℕ
  tail = length line

  abbrev x : ℕ
  x = hour.begin

  -- the run at place a of the line is one of the table
  pub line_known : (a : ℕ) → a < tail → run line a < count t
  line_known a l = All-get_or (λ (r : ℕ). r < count t) line a 0 l H.standing.known

  begun_at : (k : ℕ) → k < tail → begins t (run line k) ≤ x
  begun_at k l = All-get_or (λ (r : ℕ). begins t r ≤ x) line k 0 l H.standing.begun

  -- a run that stands at the hour stands in the line
  stands : (r : ℕ) → r < count t → begins t r ≤ x → x ≤ ends t r → Stands line 0 tail r
  stands r h b e = all_contains (H.standing.all r h b e)

  pub ends_none : {least : ℕ} {out : List ℕ} {f : ℕ} → Tidy out f → Ends t line 0 tail x least 0 adj₀ out f out f
  ends_none {least} T =
      record {
        low = le_refl 0;
        high = omega arith;
        cut = λ k m h l. absurd (omega arith);
        graph = shows_as (λ u v w. drawn_all w) (λ u v w. all_drawn w) H.graph;
        grown = grown_as (grown_none {A = EndedBy t line 0 0 x least} T) (λ c s. s) (λ c w. absurd (omega (arith, w.low, w.high)));
      }

  pub next_ends : {a b y : ℕ} → 0 ≤ a → a < tail → y ≡ ends t (run line a) → Ended t line a tail (y + 1) b → Next t line a b tail y
  next_ends {a} {b} {y} h l e w =
      record {
        more = dite (dec_lt a b) (λ k. k) (λ k. absurd (omega (arith, at_a (omega (arith, w.low)))));
        high = w.high;
        here = λ k p q. omega (arith, w.ended k p q, H.standing.rising.rising a k h p (lt_of_lt_of_le q w.high));
        later = λ k p q. omega (arith, w.stands (lt_of_le_of_lt p q), H.standing.rising.rising b k (le_trans h w.low) p q);
      }
    where
      at_a : b ≡ a → y + 1 ≤ ends t (run line a)
      at_a d = le_trans (w.stands (lt_of_le_of_lt (le_of_eq d) l)) (le_of_eq (ap (λ (k : ℕ). ends t (run line k)) d))

  -- ---- one turn: the runs from a up to b end next, at y

  module _ {least a b y : ℕ} {adj out₀ out : List ℕ} {f₀ f : ℕ} (I : Ends t line 0 tail x least a adj out₀ f₀ out f) (N : Next t line a b tail y)
      (here : y ≡ ends t (run line a)) where
    before_tail : a < tail
    before_tail = lt_of_lt_of_le N.more N.high

    span : x ≤ y
    span = le_trans (All-get_or (λ (r : ℕ). x ≤ ends t r) line a 0 before_tail H.standing.lasts) (le_of_eq (sym here))

    -- a run that stands at x and ends at y or later stands from a on
    from_a : {r : ℕ} → r < count t → begins t r ≤ x → y ≤ ends t r → Stands line a tail r
    from_a {r} h b e =
        let s = stands r h b (le_trans span e) in
        record {
          place = s.place;
          low = dite (dec_lt s.place a) (λ l. absurd (omega (arith, I.cut s.place a s.low l (le_refl a) before_tail, ap (ends t) s.is))) (λ l. omega arith);
          high = s.high;
          is = s.is;
        }

    runs_covered : (u v : ℕ) → Runs t line a tail u v → Covered t u v x y
    runs_covered u v w =
        record {
          link = run line w.place;
          covers = record {
            there = line_known w.place w.high;
            pair = w.pair;
            span = span;
            from = begun_at w.place w.high;
            upto = le_trans (le_of_eq here) (H.standing.rising.rising a w.place I.low w.low w.high);
          };
        }

    covered_runs : (u v : ℕ) → Covered t u v x y → Runs t line a tail u v
    covered_runs u v j =
        let s = from_a j.covers.there j.covers.from j.covers.upto in
        record { place = s.place; low = s.low; high = s.high; pair = subst (λ (i : ℕ). Of t i u v) (sym s.is) j.covers.pair }

    known : Known t line a b
    known =
        record {
          sized = N.high;
          known = λ k h l. line_known k (lt_of_lt_of_le l N.high);
        }

    next_drawable : Drawable t (slice_range line a b)
    next_drawable = known_drawable H.table (all_part known (λ (r : ℕ). r < count t) known.known)

    pub next_span : AtSpan t (slice_range line a b) x y adj hour.fresh.near hour.wide
    next_span =
        record {
          table = H.table;
          span = span;
          graph = shows_as runs_covered covered_runs I.graph;
          freshly = H.freshly;
          reach = H.reach;
          drawable = next_drawable;
          begun = all_part known (λ (r : ℕ). begins t r ≤ x) (λ k h l. begun_at k (lt_of_lt_of_le l N.high));
          ending = all_part known (λ (r : ℕ). ends t r ≡ y) N.here;
          all = λ r h p e.
              let s = from_a h p (le_of_eq (sym e)) in
              contains_part known (record {
                place = s.place;
                low = s.low;
                high = dite (dec_lt s.place b) (λ l. l) (λ l. absurd (omega (arith, N.later s.place (omega arith) s.high, ap (ends t) s.is)));
                is = s.is;
              });
        }

    -- no pair has one of these runs and a later one: both stand at x
    apart_later : {u v : ℕ} → Runs t line b tail u v → Runs t line a b u v → ⊥
    unfolding runs_covered
    apart_later w s =
        let p = runs_covered _ _ (record { place = w.place; low = le_trans (le_of_lt N.more) w.low; high = w.high; pair = w.pair }) in
        let q = runs_covered _ _ (record { place = s.place; low = s.low; high = lt_of_lt_of_le s.high N.high; pair = s.pair }) in
        H.table.apart (run line w.place) (run line s.place) p.covers.there q.covers.there
        (λ e. omega (arith, ap (ends t) e, N.later w.place w.low w.high, N.here s.place s.low s.high))
        (covers_clash p.covers q.covers x (le_refl x) span (le_refl x) span)

    next_graph : {adj' : List ℕ} → Lost adj adj' (Runs t line a b) → Shows adj' (Runs t line b tail)
    next_graph L =
        record {
          sized = L.size ∙ I.graph.sized;
          sound = λ i j h.
              let w = I.graph.sound i j (L.only i j h) in
              record {
                place = w.place;
                low = dite (dec_lt w.place b)
                    (λ l. absurd (L.gone i j (record { place = w.place; low = w.low; high = l; pair = w.pair }) h))
                    (λ l. omega arith);
                high = w.high;
                pair = w.pair;
              };
          full = λ i j w. L.kept i j
              (I.graph.full i j (record { place = w.place; low = le_trans (le_of_lt N.more) w.low; high = w.high; pair = w.pair }))
              (apart_later w);
        }

    -- each row found has a span that stands before this one, if none that was found before begins so late
    pub next_past : BegunBefore out₀ f₀ x → Past out f x y
    next_past s =
        record {
          past = λ c h. ⊎_elim
              (λ k. sooner (s.sooner c k))
              (λ w. shorter w.shown.from (omega (arith, w.is, here, I.cut w.place a w.low w.high (le_refl a) before_tail)))
              (I.grown.sound c h);
        }

    -- the runs are unlinked, and the groups of the span found
    pub next_more : {adj' out' : List ℕ} {f' : ℕ} → Grown (ShownOver t least x y) (ShownOver t least x y) out f out' f' → Lost adj adj' (Drawn t (slice_range line a b))
        → Ends t line 0 tail x least b adj' out₀ f₀ out' f'
    next_more g L =
        record {
          low = le_trans I.low (le_of_lt N.more);
          high = N.high;
          cut = λ k m h l p q. dite (dec_lt k a)
              (λ s. I.cut k m h s (le_trans (le_of_lt N.more) p) q)
              (λ s. lt_of_le_of_lt (le_of_eq (N.here k (omega arith) l)) (N.later m p q));
          graph = next_graph (lost_runs known L);
          grown = grown_trans I.grown g
              (λ c w. record { shown = w.shown; place = w.place; low = w.low; high = lt_of_lt_of_le w.high (le_of_lt N.more); is = w.is })
              (λ c s. record { shown = record { shown = s.shown; from = s.from }; place = a; low = I.low; high = N.more; is = sym here ∙ sym s.upto })
              (λ c w. dite (dec_lt w.place a)
              (λ l. inl (record { shown = w.shown; place = w.place; low = w.low; high = l; is = w.is }))
              (λ l. inr (record { shown = w.shown.shown; from = w.shown.from; upto = sym w.is ∙ N.here w.place (omega arith) w.high })));
        }

  -- ---- the ways out

  module _ {least a : ℕ} {adj out₀ out : List ℕ} {f₀ f : ℕ} (I : Ends t line 0 tail x least a adj out₀ f₀ out f) where
    -- every group that begins at x ends with a run of the line
    last_stands : {c : Row} → ShownFrom t least x c → (k : ℕ) × (0 ≤ k) × (k < tail) × (ends t (run line k) ≡ c.end)
    last_stands {c} s =
        let w = group_last_link s.shown.group in
        let v = w.pair.covers in
        let p = stands w.pair.link v.there (le_trans v.from (le_of_eq s.from))
        (le_trans (le_of_eq (sym s.from)) (le_trans s.shown.group.clique.span v.upto)) in
        (p.place, p.low, p.high, ap (ends t) p.is ∙ w.last)

    -- the line is done
    pub ends_all : tail ≤ a → Grown (ShownFrom t least x) (ShownFrom t least x) out₀ f₀ out f
    ends_all h = grown_as I.grown (λ c s. s.shown)
        (λ c s. let w = last_stands s in
        I.grown.complete c (record { shown = s; place = w.0; low = w.1; high = lt_of_lt_of_le w.2 h; is = w.3 }))

    -- the runs from a on end after every run that begins at x: no group that begins at x ends so late
    pub ends_past : a < tail → hour.last < ends t (run line a) → Grown (ShownFrom t least x) (ShownFrom t least x) out₀ f₀ out f
    ends_past h l = grown_as I.grown (λ c s. s.shown)
        (λ c s. let w = last_stands s in
        I.grown.complete c (record {
          shown = s;
          place = w.0;
          low = w.1;
          high = dite (dec_lt w.0 a) (λ k. k)
              (λ k. absurd (omega (arith, w.3, soon s, H.standing.rising.rising a w.0 I.low (omega arith) w.2)));
          is = w.3;
        }))
      where
        soon : {c : Row} → ShownFrom t least x c → c.end ≤ hour.last
        soon s =
            let w = group_first_link s.shown.group in
            le_trans w.pair.covers.upto (H.bound w.pair.link w.pair.covers.there (w.first ∙ s.from))

    -- the groups of the next span found no room
    pub ends_overgrown : {y : ℕ} {out' : List ℕ} → Overgrown (ShownOver t least x y) out f out' → Overgrown (ShownFrom t least x) out₀ f₀ out'
    ends_overgrown = overgrown_after I.grown (λ c s. s.shown) (λ c s. record { shown = s.shown; from = s.from })

-- ---- the hour that the sweep has reached

module _ {t standing beginning : List ℕ} {x : ℕ} (B : AtBegin t standing beginning x) where
  -- the pairs of the runs that begin
  drawn_begun : (u v : ℕ) → Drawn t beginning u v → Begun t x u v
  drawn_begun u v w =
      record {
        link = w.run;
        there = All-contains (λ (r : ℕ). r < count t) beginning w.run B.begun.known w.there;
        pair = w.pair;
        is = All-contains (λ (r : ℕ). begins t r ≡ x) beginning w.run B.begun.begun w.there;
      }

  begun_drawn : (u v : ℕ) → Begun t x u v → Drawn t beginning u v
  begun_drawn u v b = record { run = b.link; there = B.begun.all b.link b.there b.is; pair = b.pair }

  -- a pair that is covered at x has a run that stands
  covered_standing : {u v : ℕ} → Covered t u v x x → Drawn t standing u v
  covered_standing j = record { run = j.link; there = B.stood.all j.link j.covers.there j.covers.from j.covers.upto; pair = j.covers.pair }

  reach_wide : {adj : List ℕ} {set : ℕ} → Shows adj (Drawn t standing) → Reaches t beginning adj set → Wide t x set
  reach_wide {adj} {set} G R =
      record {
        both = λ u v b. let w = begun_drawn u v b in in_pair w.run w.there w.pair;
        further = λ u v k b p q.
            let w = begun_drawn u v b in
            linked k w.run w.there w.pair (G.full u k (covered_standing p)) (G.full v k (covered_standing q));
      }
    where
      in_pair : {u v : ℕ} (r : ℕ) → Contains beginning r → Of t r u v → Member u set
      in_pair r w o = paired o (All-contains (λ (s : ℕ). PairIn t s set) beginning r R.both.each w)
        where
          paired : {u v : ℕ} → Of t r u v → PairIn t r set → Member u set
          paired (in_order p q) m = subst (λ (g : ℕ). Member g set) p m.one_in
          paired (turned p q) m = subst (λ (g : ℕ). Member g set) q m.other_in

      linked : {u v : ℕ} (k r : ℕ) → Contains beginning r → Of t r u v → Member k (near adj u) → Member k (near adj v) → Member k set
      linked k r w o a b = joined o a b (All-contains (λ (s : ℕ). Around t adj s set) beginning r R.around w)
        where
          joined : {u v : ℕ} → Of t r u v → Member k (near adj u) → Member k (near adj v) → Around t adj r set → Member k set
          joined (in_order p q) a b m = m.further k (subst (λ (g : ℕ). Member k (near adj g)) (sym p) a) (subst (λ (g : ℕ). Member k (near adj g)) (sym q) b)
          joined (turned p q) a b m = m.further k (subst (λ (g : ℕ). Member k (near adj g)) (sym p) b) (subst (λ (g : ℕ). Member k (near adj g)) (sym q) a)

pub begin_hour : {t standing beginning adj : List ℕ} {hour : Hour} → AtBegin t standing beginning hour.begin → Shows adj (Drawn t standing)
    → Shows hour.fresh.near (Drawn t beginning) → Reaches t beginning adj hour.wide → LastEnd t beginning hour.last → AtHour t standing hour adj
begin_hour {t} {beginning = beginning} {hour = hour} B G F R L =
    record {
      table = B.table;
      standing = B.stood;
      graph = G;
      freshly = shows_as (drawn_begun B) (begun_drawn B) F;
      reach = reach_wide B G R;
      bound = λ r h e. All-contains (λ (s : ℕ). ends t s ≤ hour.last) beginning r L.bound (B.begun.all r h e);
    }

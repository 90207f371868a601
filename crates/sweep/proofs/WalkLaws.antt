-- What a walk along a part of a line gathers, one run after another: graphs, sets of gauges, the last end, which runs lie in a set. Assumes nothing.
use mathlib.Core.Logic.{◌⊎◌, inl, inr, ⊎_elim}
use mathlib.Core.Path.{◌≡◌, refl, sym, ap, subst, ◌∙◌}
use mathlib.Core.List.{List, [], ◌∷◌}
use Prim.Native.Nat.{ℕ, zero, suc, ◌+◌, ◌-◌, ◌≤◌, ◌<◌}
use native.Mathlib.Omega.{arith}
use lib.Bits.{bit_and, bit_or}
use lib.ListN.{length, get_or, take, replicate, length-replicate}
use Rattle.std.specs.List.{All, Contains, slice_range}
use Rattle.std.proofs.lemmas.List.{take_more, get_or_default}
use Rattle.std.proofs.lemmas.List.Edits.{length-between, get_or-between}
use Rattle.std.proofs.lemmas.List.Elements.{All-more, All-weaker, All-from_get_or, Contains-push, Contains-push_cases, Contains-append_left}
use Rattle.gauges.specs.Sets.{Member, Only}
use Rattle.gauges.proofs.Laws.{member_zero, or_left, or_right, and_in}
use Rattle.links.specs.Links.{Of, ends, one, other}
use Rattle.links.specs.Links as Links
use Rattle.sweep.specs.Near.{near}
use Rattle.sweep.specs.Lines.{run, Known, Rising, Stands}
use Rattle.sweep.specs.Graphs.{Drawn, SamePair, in_order, turned, Won, Lost, Shows, PairIn, BothIn, Around, LastEnd, Alone, Counted}
use Rattle.sweep.specs.declared.graph.Inner.{Inner}
use Rattle.sweep.specs.declared.graph.Inner.TheVariants.{NoRun, OneRun}

-- ---- the places of a line that a part has

-- a run from `from` up to `to` of the line is one of gauges u and v
pub record Runs (t line : List ℕ) (from to u v : ℕ) : Type 0 where
  pub place : ℕ
  pub low : from ≤ place
  pub high : place < to
  pub pair : Of t (run line place) u v

module _ {t line : List ℕ} {a b : ℕ} (K : Known t line a b) where
  -- what holds of each run in these places holds of each run of the part
  pub all_part : (P : ℕ → Type 0) → ((k : ℕ) → a ≤ k → k < b → P (run line k)) → All P (slice_range line a b)
  all_part P f = All-from_get_or P (slice_range line a b) 0
      (λ i h. subst P (sym (get_or-between line a b i 0 (omega (arith, length-between line a b K.sized)))) (f (a + i) (omega arith) (omega (arith, length-between line a b K.sized))))

  -- a run stands in these places where the part has it
  pub contains_part : {r : ℕ} → Stands line a b r → Contains (slice_range line a b) r
  contains_part {r} s = (
    s.place - a,
    omega (arith, length-between line a b K.sized, s.low, s.high),
    get_or-between line a b (s.place - a) r (omega (arith, s.low, s.high)) ∙ ap (λ (k : ℕ). get_or line k r) (omega (arith, s.low))
        ∙ get_or_default line s.place r 0 (omega (arith, s.high)) ∙ s.is,
  )

  pub part_contains : {r : ℕ} → Contains (slice_range line a b) r → Stands line a b r
  part_contains {r} w =
      record {
        place = a + w.0;
        low = omega arith;
        high = omega (arith, length-between line a b K.sized, w.1);
        is = get_or_default line (a + w.0) 0 r (omega (arith, length-between line a b K.sized, w.1))
            ∙ sym (get_or-between line a b w.0 r (omega (arith, length-between line a b K.sized, w.1))) ∙ w.2;
      }

  -- the run at place k of the part
  part_at : (k : ℕ) → k < length (slice_range line a b) → run (slice_range line a b) k ≡ run line (a + k)
  part_at k h = get_or-between line a b k 0 (omega (arith, length-between line a b K.sized))

  -- the part rises where these places do
  pub rising_part : (hour : ℕ → ℕ) → Rising hour line a b → Rising hour (slice_range line a b) 0 (length (slice_range line a b))
  rising_part hour R =
      record {
        rising = λ i j h l m. omega (
          arith,
          ap hour (part_at i (omega arith)),
          ap hour (part_at j m),
          length-between line a b K.sized,
          R.rising (a + i) (a + j) (omega arith) (omega arith) (omega (arith, length-between line a b K.sized)),
        );
      }

  pub runs_drawn : {u v : ℕ} → Runs t line a b u v → Drawn t (slice_range line a b) u v
  runs_drawn w =
      record { run = run line w.place; there = contains_part (record { place = w.place; low = w.low; high = w.high; is = refl }); pair = w.pair }

  pub drawn_runs : {u v : ℕ} → Drawn t (slice_range line a b) u v → Runs t line a b u v
  drawn_runs {u} {v} w =
      let s = part_contains w.there in
      record { place = s.place; low = s.low; high = s.high; pair = subst (λ (r : ℕ). Of t r u v) (sym s.is) w.pair }

  pub lost_runs : {adj adj' : List ℕ} → Lost adj adj' (Drawn t (slice_range line a b)) → Lost adj adj' (Runs t line a b)
  lost_runs L =
      record {
        size = L.size;
        kept = λ i j h f. L.kept i j h (λ w. f (drawn_runs w));
        gone = λ i j w. L.gone i j (runs_drawn w);
        only = L.only;
      }

-- ---- all places of a part

module _ {part : List ℕ} where
  pub contains_all : {r : ℕ} → Stands part 0 (length part) r → Contains part r
  contains_all {r} s = (s.place, s.high, get_or_default part s.place r 0 s.high ∙ s.is)

  pub all_contains : {r : ℕ} → Contains part r → Stands part 0 (length part) r
  all_contains {r} w = record { place = w.0; low = omega arith; high = w.1; is = get_or_default part w.0 0 r w.1 ∙ w.2 }

  pub all_drawn : {t : List ℕ} {u v : ℕ} → Runs t part 0 (length part) u v → Drawn t part u v
  all_drawn w = record { run = run part w.place; there = contains_all (record { place = w.place; low = w.low; high = w.high; is = refl }); pair = w.pair }

  pub drawn_all : {t : List ℕ} {u v : ℕ} → Drawn t part u v → Runs t part 0 (length part) u v
  drawn_all {t} {u} {v} w =
      let s = all_contains w.there in
      record { place = s.place; low = s.low; high = s.high; pair = subst (λ (r : ℕ). Of t r u v) (sym s.is) w.pair }

-- ---- the pair of a run

module _ (t : List ℕ) (r u v : ℕ) {i j : ℕ} (is_one : u ≡ one t r) (is_other : v ≡ other t r) where
  pub pair_of : SamePair u v i j → Of t r i j
  pair_of (in_order p q) = Links.in_order (sym is_one ∙ sym p) (sym is_other ∙ sym q)
  pair_of (turned p q) = Links.turned (sym is_one ∙ sym q) (sym is_other ∙ sym p)

  pub of_pair : Of t r i j → SamePair u v i j
  of_pair (Links.in_order p q) = in_order (sym p ∙ sym is_one) (sym q ∙ sym is_other)
  of_pair (Links.turned p q) = turned (sym q ∙ sym is_other) (sym p ∙ sym is_one)

-- ---- one run more

module _ (part : List ℕ) (i : ℕ) (more : i < length part) where
  -- the run that the walk comes to is one of those passed then
  contains_old : {r : ℕ} → Contains (take i part) r → Contains (take (i + 1) part) r
  contains_old {r} w = subst (λ (l : List ℕ). Contains l r) (sym (take_more part i 0 more)) (Contains-append_left (take i part) (run part i ∷ []) r w)

  contains_new : Contains (take (i + 1) part) (run part i)
  contains_new = subst (λ (l : List ℕ). Contains l (run part i)) (sym (take_more part i 0 more)) (Contains-push (take i part) (run part i))

  contains_last : {r : ℕ} → Contains (take (i + 1) part) r → Contains (take i part) r ⊎ (run part i ≡ r)
  contains_last {r} w = Contains-push_cases (take i part) (run part i) r (subst (λ (l : List ℕ). Contains l r) (take_more part i 0 more) w)

  module _ {t : List ℕ} {u v : ℕ} where
    drawn_old : Drawn t (take i part) u v → Drawn t (take (i + 1) part) u v
    drawn_old w = record { run = w.run; there = contains_old w.there; pair = w.pair }

    drawn_new : Of t (run part i) u v → Drawn t (take (i + 1) part) u v
    drawn_new o = record { run = run part i; there = contains_new; pair = o }

    drawn_last : Drawn t (take (i + 1) part) u v → Drawn t (take i part) u v ⊎ Of t (run part i) u v
    drawn_last w = ⊎_elim
        (λ h. inl (record { run = w.run; there = h; pair = w.pair }))
        (λ e. inr (subst (λ (r : ℕ). Of t r u v) (sym e) w.pair))
        (contains_last w.there)

-- the walk has begun: no run is passed
none_passed : (part : List ℕ) {r : ℕ} → Contains (take 0 part) r → ⊥
none_passed part w = omega (arith, w.1)

-- ---- graphs

near_zero : (n i : ℕ) → get_or {A = ℕ} (replicate n 0) i 0 ≡ 0
near_zero zero i = refl
near_zero (suc n) zero = refl
near_zero (suc n) (suc i) = near_zero n i

pub shows_none : (t part : List ℕ) → Shows (replicate 64 0) (Drawn t (take 0 part))
shows_none t part =
    record {
      sized = length-replicate {A = ℕ} 64 0;
      sound = λ i j h. absurd (member_zero j (subst (Member j) (near_zero 64 i) h));
      full = λ i j w. absurd (none_passed part w.there);
    }

module _ (t part : List ℕ) (n u v : ℕ) (more : n < length part) (is_one : u ≡ one t (run part n)) (is_other : v ≡ other t (run part n)) where
  pub shows_more : {adj adj' : List ℕ} → Shows adj (Drawn t (take n part)) → Won adj adj' (SamePair u v) → Shows adj' (Drawn t (take (n + 1) part))
  shows_more s w =
      record {
        sized = w.size ∙ s.sized;
        sound = λ i j h. ⊎_elim
            (λ x. drawn_old part n more (s.sound i j x))
            (λ p. drawn_new part n more (pair_of t (run part n) u v is_one is_other p))
            (w.only i j h);
        full = λ i j r. ⊎_elim
            (λ x. w.kept i j (s.full i j x))
            (λ o. w.new i j (of_pair t (run part n) u v is_one is_other o))
            (drawn_last part n more r);
      }

  pub lost_more : {adj₀ adj adj' : List ℕ} → Lost adj₀ adj (Drawn t (take n part)) → Lost adj adj' (SamePair u v) → Lost adj₀ adj' (Drawn t (take (n + 1) part))
  lost_more a b =
      record {
        size = b.size ∙ a.size;
        kept = λ i j h f. b.kept i j
            (a.kept i j h (λ r. f (drawn_old part n more r)))
            (λ p. f (drawn_new part n more (pair_of t (run part n) u v is_one is_other p)));
        gone = λ i j r h. ⊎_elim
            (λ x. a.gone i j x (b.only i j h))
            (λ o. b.gone i j (of_pair t (run part n) u v is_one is_other o) h)
            (drawn_last part n more r);
        only = λ i j h. a.only i j (b.only i j h);
      }

-- ---- sets of gauges

-- the set of gauge u alone holds the gauge that u is
pub only_holds : {u w r : ℕ} → Only u r → u ≡ w → w < 64 → Member w r
only_holds {r = r} o e h = subst (λ (k : ℕ). Member k r) e (o.there (omega arith))

-- a larger set holds them too
pair_wider : {t : List ℕ} {set : ℕ} (more r : ℕ) → PairIn t r set → PairIn t r (bit_or set more)
pair_wider {t} {set} more r w = record { one_in = or_left set more (one t r) w.one_in; other_in = or_left set more (other t r) w.other_in }

pub both_wider : {t part : List ℕ} {set : ℕ} (more : ℕ) → BothIn t part set → BothIn t part (bit_or set more)
both_wider {t} {part} {set} more w =
    record { each = All-weaker (λ (r : ℕ). PairIn t r set) (λ (r : ℕ). PairIn t r (bit_or set more)) (pair_wider more) part w.each }

-- the run that the walk comes to adds its gauges, of the sets a and b
pub both_more : (t part : List ℕ) (n set a b : ℕ) → n < length part → BothIn t (take n part) set
    → Member (one t (run part n)) a → Member (other t (run part n)) b → BothIn t (take (n + 1) part) (bit_or set (bit_or a b))
both_more t part n set a b more w p q =
    record {
      each = All-more (λ (r : ℕ). PairIn t r (bit_or set (bit_or a b))) part n 0 more (both_wider (bit_or a b) w).each
          (record { one_in = or_right set (bit_or a b) _ (or_left a b _ p); other_in = or_right set (bit_or a b) _ (or_right a b _ q) });
    }

-- the run that the walk comes to adds every gauge that is linked to both of its own
pub around_more : (t part : List ℕ) (n : ℕ) {adj : List ℕ} (set : ℕ) {a b : ℕ} → n < length part
    → All (λ (r : ℕ). Around t adj r set) (take n part) → a ≡ near adj (one t (run part n)) → b ≡ near adj (other t (run part n))
    → All (λ (r : ℕ). Around t adj r (bit_or set (bit_and a b))) (take (n + 1) part)
around_more t part n {adj} set {a} {b} more w p q =
    All-more (λ (r : ℕ). Around t adj r (bit_or set (bit_and a b))) part n 0 more
    (All-weaker (λ (r : ℕ). Around t adj r set) (λ (r : ℕ). Around t adj r (bit_or set (bit_and a b)))
    (λ r o. record { further = λ v x y. or_left set (bit_and a b) v (o.further v x y) }) (take n part) w)
    (record { further = λ v x y. or_right set (bit_and a b) v (and_in a b v (subst (Member v) (sym p) x) (subst (Member v) (sym q) y)) })

-- ---- the last end

pub last_more : (t part : List ℕ) (n : ℕ) {x y : ℕ} → n < length part → LastEnd t (take n part) x → x ≤ y → ends t (run part n) ≤ y → LastEnd t (take (n + 1) part) y
last_more t part n {x} {y} more w h l =
    record {
      bound = All-more (λ (r : ℕ). ends t r ≤ y) part n 0 more
          (All-weaker (λ (r : ℕ). ends t r ≤ x) (λ (r : ℕ). ends t r ≤ y) (λ r k. omega arith) (take n part) w.bound) l;
    }

-- ---- which runs lie in a set

module _ (t part : List ℕ) (n set : ℕ) (more : n < length part) where
  -- the run that the walk comes to does not lie in the set
  pub counted_out : {inner : Inner} → Counted t (take n part) set inner → (PairIn t (run part n) set → ⊥) → Counted t (take (n + 1) part) set inner
  counted_out w f =
      record {
        none = λ e. All-more (λ (r : ℕ). PairIn t r set → ⊥) part n 0 more (w.none e) f;
        alone = λ r e.
            let o = w.alone r e in
            record {
              there = contains_old part n more o.there;
              inside = o.inside;
              only = All-more (λ (s : ℕ). PairIn t s set → s ≡ r) part n 0 more o.only (λ i. absurd (f i));
            };
      }

  -- it does, and none before it did
  pub counted_one : {inner : Inner} → Counted t (take n part) set inner → inner ≡ NoRun → PairIn t (run part n) set
      → Counted t (take (n + 1) part) set (OneRun (run part n))
  counted_one w z i =
      record {
        none = λ e. absurd (cc);
        alone = λ r e.
            subst (Alone t (take (n + 1) part) set) (cc) (record {
              there = contains_new part n more;
              inside = i;
              only = All-more (λ (s : ℕ). PairIn t s set → s ≡ run part n) part n 0 more
                  (All-weaker (λ (s : ℕ). PairIn t s set → ⊥) (λ (s : ℕ). PairIn t s set → s ≡ run part n) (λ s f j. absurd (f j)) (take n part) (w.none z))
                  (λ j. refl);
            });
      }

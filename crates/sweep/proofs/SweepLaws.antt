-- The sweep over begins: entering the runs that begin, dropping those that have ended; and which runs stand at an hour. Assumes nothing.
use mathlib.Core.Logic.{◌⊎◌, inl, inr, ⊎_elim, dite}
use mathlib.Core.Path.{◌≡◌, refl, sym, ap, subst, ◌∙◌}
use mathlib.Core.List.{List}
use Prim.Native.Nat.{ℕ, ◌+◌, ◌≤◌, ◌<◌}
use native.Mathlib.Nat.{le_refl, le_trans, le_of_eq, lt_of_le_of_lt, lt_of_lt_of_le}
use native.Mathlib.Decide.{ℕ_discrete, dec_lt}
use native.Mathlib.Omega.{arith}
use lib.ListN.{length}
use Rattle.std.specs.List.{slice_range}
use Rattle.links.specs.Links.{count, begins, ends}
use Rattle.links.specs.Lines.{ComesBefore, sooner, lower, ByBegin, lined_up, no_room}
use Rattle.sweep.specs.Lines.{run, Known, Stands, Entered, InOrder, Ended, Passed, EnteredAll, EntersAll, Standing, Beginning}
use Rattle.sweep.proofs.LineLaws.{here, stands_in}
use Rattle.sweep.proofs.WalkLaws.{all_part, contains_part, rising_part}

-- ---- the runs in order of their begins

-- a run that comes before another begins no later
before_begins : {t : List ℕ} {r s : ℕ} → ComesBefore t r s → begins t r ≤ begins t s
before_begins (sooner h) = omega arith
before_begins (lower e h) = omega arith

-- a line with room for them has every run of the table, in rising order of their begins
pub order_lined_up : {t before line : List ℕ} → ByBegin t before line → count t ≤ 2048 → length before ≡ 2048 → InOrder t line
order_lined_up (no_room n e) few size = absurd (⊎_elim (λ h. omega arith) (λ h. omega arith) n)
order_lined_up {t} {line = line} (lined_up f r L) few size =
    record {
      known = record { sized = omega (arith, L.size); known = λ k h m. L.known k m };
      rising = record {
        rising = λ i j h l m. dite (ℕ_discrete i j)
            (λ e. le_of_eq (ap (λ (k : ℕ). begins t (run line k)) e))
            (λ d. before_begins (L.ordered i j (omega arith) m));
      };
      all = λ r h. let w = L.all r h in record { place = w.0; low = omega arith; high = w.1; is = w.2 };
    }

-- ---- runs that stand in a part of a line

stands_wider : {line : List ℕ} {from k r : ℕ} → Stands line from k r → Stands line from (k + 1) r
stands_wider {from = from} s = stands_in (le_refl from) (omega arith) s

stands_last : {line : List ℕ} {from k r : ℕ} → Stands line from (k + 1) r → Stands line from k r ⊎ (run line k ≡ r)
stands_last {line} {from} {k} s = dite (ℕ_discrete s.place k)
    (λ e. inr (ap (run line) (sym e) ∙ s.is))
    (λ d. inl (record { place = s.place; low = s.low; high = omega (arith, s.high); is = s.is }))

known_stands : {t line : List ℕ} {from to r : ℕ} → Known t line from to → Stands line from to r → r < count t
known_stands w s = lt_of_le_of_lt (le_of_eq (sym s.is)) (w.known s.place s.low s.high)

-- ---- dropping and entering

pub swept_start : (t order line : List ℕ) → Passed t order line 0 0 0
swept_start t order line =
    record {
      low = omega arith;
      passed = λ k h l. absurd (omega arith);
      rising = record { rising = λ i j h l m. absurd (omega arith) };
      lasts = λ k h l. absurd (omega arith);
      all = λ r s. absurd (omega (arith, s.high));
    }

module _ {t order line : List ℕ} {head i hour : ℕ} (S : Passed t order line head i hour) where
  -- the runs in the line are runs of the table
  pub swept_known : InOrder t order → i ≤ count t → i ≤ length line → Known t line head i
  swept_known O h l =
      record {
        sized = l;
        known = λ k a b. let s = S.passed k a b in
            known_stands O.known (record { place = s.place; low = s.low; high = lt_of_lt_of_le s.high h; is = s.is });
      }

  -- at a later hour, those that have ended are dropped
  pub swept_drop : {x head' : ℕ} → hour ≤ x → Ended t line head i x head' → Passed t order line head' i x
  swept_drop {x} {head'} h E =
      record {
        low = E.high;
        passed = λ k a b. S.passed k (le_trans E.low a) b;
        rising = record { rising = λ a b l m n. S.rising.rising a b (le_trans E.low l) m n };
        lasts = λ k a b. le_trans (E.stands (lt_of_le_of_lt a b)) (S.rising.rising head' k E.low a b);
        all = λ r s l.
            let w = S.all r s (le_trans h l) in
            record {
              place = w.place;
              low = dite (dec_lt w.place head') (λ m. absurd (omega (arith, E.ended w.place w.low m, ap (ends t) w.is))) (λ m. omega arith);
              high = w.high;
              is = w.is;
            };
      }

  -- the next run enters
  pub swept_enter : {line' : List ℕ} {r : ℕ} → Entered t line line' head i r → r ≡ run order i → hour ≤ ends t r → Passed t order line' head (i + 1) hour
  swept_enter {line'} {r} E e l =
      record {
        low = omega (arith, S.low);
        passed = λ k a b. ⊎_elim
            (λ s. subst (Stands order 0 (i + 1)) s.is (stands_wider (S.passed s.place s.low s.high)))
            (λ q. record { place = i; low = omega arith; high = omega arith; is = sym e ∙ sym q })
            (E.only _ (here head (i + 1) k a b));
        rising = E.rising;
        lasts = λ k a b. ⊎_elim
            (λ s. le_trans (S.lasts s.place s.low s.high) (le_of_eq (ap (ends t) s.is)))
            (λ q. le_trans l (le_of_eq (ap (ends t) (sym q))))
            (E.only _ (here head (i + 1) k a b));
        all = λ s w m. ⊎_elim
            (λ old. E.kept s (S.all s old m))
            (λ q. subst (Stands line' head (i + 1)) (e ∙ q) E.entered)
            (stands_last w);
      }

-- ---- the runs that stand, and that begin

-- what the sweep has passed began before the next run does
pub record Reached (t order : List ℕ) (i : ℕ) : Type 0 where
  pub sooner : i < count t → (k : ℕ) → k < i → begins t (run order k) < begins t (run order i)

pub reached_none : (t order : List ℕ) → Reached t order 0
reached_none t order = record { sooner = λ h k l. absurd (omega arith) }

-- x is the begin of the run at place i, and the runs that begin there end at place next
module _ {t order line : List ℕ} {head i next x : ℕ} (O : InOrder t order) (J : EnteredAll t order line head i next x) (R : Reached t order i)
    (more : i < count t) (is : begins t (run order i) ≡ x) where
  -- what is passed has begun
  begun_by : (k : ℕ) → k < next → begins t (run order k) ≤ x
  begun_by k h = dite (dec_lt k i) (λ l. omega (arith, R.sooner more k l)) (λ l. le_of_eq (J.begun k (omega arith) h))

  rises : (k m : ℕ) → k ≤ m → m < count t → begins t (run order k) ≤ begins t (run order m)
  rises k m h l = O.rising.rising k m (omega arith) h l

  -- what is not passed has not
  not_yet : (k : ℕ) → next ≤ k → k < count t → x < begins t (run order k)
  not_yet k h l =
      let differs : begins t (run order next) ≡ x → ⊥ = J.later (lt_of_le_of_lt h l) in
      omega (arith, rises i next J.low (lt_of_le_of_lt h l), rises next k h l)

  pub reached_next : Reached t order next
  reached_next = record { sooner = λ h k l. lt_of_le_of_lt (begun_by k l) (not_yet next (omega arith) h) }

  pub entered_standing : next ≤ length line → Standing t (slice_range line head next) x
  entered_standing room =
      let K : Known t line head next = swept_known J.swept O J.high room in
      record {
        known = all_part K (λ (r : ℕ). r < count t) K.known;
        begun = all_part K (λ (r : ℕ). begins t r ≤ x) (λ k a b. let s = J.swept.passed k a b in le_trans (le_of_eq (ap (begins t) (sym s.is))) (begun_by s.place s.high));
        lasts = all_part K (λ (r : ℕ). x ≤ ends t r) J.swept.lasts;
        rising = rising_part K (ends t) J.swept.rising;
        all = λ r h b e.
            let s = O.all r h in
            contains_part K (J.swept.all r (record {
              place = s.place;
              low = s.low;
              high = dite (dec_lt s.place next) (λ l. l) (λ l. absurd (omega (arith, not_yet s.place (omega arith) s.high, ap (begins t) s.is)));
              is = s.is;
            }) e);
      }

  pub entered_beginning : Beginning t (slice_range order i next) x
  entered_beginning =
      let K : Known t order i next = record { sized = le_trans J.high O.known.sized; known = λ k a b. O.known.known k (omega arith) (lt_of_lt_of_le b J.high) } in
      record {
        known = all_part K (λ (r : ℕ). r < count t) K.known;
        begun = all_part K (λ (r : ℕ). begins t r ≡ x) J.begun;
        all = λ r h b.
            let s = O.all r h in
            let same : begins t (run order s.place) ≡ x = ap (begins t) s.is ∙ b in
            contains_part K (record {
              place = s.place;
              low = dite (dec_lt s.place i) (λ l. absurd (omega (arith, R.sooner more s.place l))) (λ l. omega arith);
              high = dite (dec_lt s.place next) (λ l. l) (λ l. absurd (omega (arith, not_yet s.place (omega arith) s.high)));
              is = s.is;
            });
      }

-- ---- entering all runs that begin at an hour

-- the runs from place i up to `at` of the order begin at x, and the sweep has passed them; line₀ is the line before
pub record Entering (t order line₀ line : List ℕ) (head i at x : ℕ) : Type 0 where
  pub low : i ≤ at
  pub high : at ≤ count t
  pub size : length line ≡ length line₀
  pub begun : (k : ℕ) → i ≤ k → k < at → begins t (run order k) ≡ x
  pub swept : Passed t order line head at x

pub entering_more : {t order line₀ line line' : List ℕ} {head i at x : ℕ} → EntersAll t order line₀ head i x → Entering t order line₀ line head i at x
    → at < count t → begins t (run order at) ≡ x → Entered t line line' head at (run order at) → Entering t order line₀ line' head i (at + 1) x
entering_more {t} {order} {at = at} J E more e w =
    record {
      low = omega (arith, E.low);
      high = omega arith;
      size = w.size ∙ E.size;
      begun = λ k h l. dite (ℕ_discrete k at) (λ d. ap (λ (n : ℕ). begins t (run order n)) d ∙ e) (λ d. E.begun k h (omega arith));
      swept = swept_enter E.swept w refl (le_trans (le_of_eq (sym e)) (J.table.forward (run order at) (J.lined_up.known.known at (omega arith) more)));
    }

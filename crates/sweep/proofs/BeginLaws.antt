-- The groups of a table, one begin after another: every group begins with one of the runs. Assumes nothing.
use mathlib.Core.Logic.{inl, inr, ⊎_elim, dite}
use mathlib.Core.Path.{◌≡◌, refl, sym, ap, ◌∙◌}
use mathlib.Core.List.{List}
use Prim.Native.Nat.{ℕ, ◌≤◌, ◌<◌}
use native.Mathlib.Nat.{le_trans, le_of_eq, lt_of_lt_of_le, le_of_lt}
use native.Mathlib.Decide.{dec_lt}
use native.Mathlib.Omega.{arith}
use lib.ListN.{length}
use Rattle.std.specs.List.{slice_range}
use Rattle.links.specs.Links.{count, begins}
use Rattle.cliques.specs.Groups.{Row}
use Rattle.sweep.specs.Store.{Held, Grown, Overgrown, BegunBefore}
use Rattle.sweep.specs.Lines.{run, Known, Ended, Passed, EnteredAll, EntersAll}
use Rattle.sweep.specs.Spans.{ShownFrom, AtBegin, AtTable}
use Rattle.sweep.specs.Shown.{Shown}
use Rattle.sweep.proofs.Stores.{nothing_tidy, nothing_held, grown_none, grown_as, grown_trans, overgrown_after}
use Rattle.sweep.proofs.SweepLaws.{Reached, reached_none, swept_start, swept_known, swept_drop, reached_next, entered_standing, entered_beginning}
use Rattle.cliques.proofs.TableLinks.{group_first_link}

-- the row is to be shown, and begins with one of the first i runs of the order
pub record BegunBy (t order : List ℕ) (i least : ℕ) (c : Row) : Type 0 where
  pub shown : Shown t least c
  pub place : ℕ
  pub high : place < i
  pub is : begins t (run order place) ≡ c.begin

-- what is known before place i of the order: the sweep has passed the runs below it, and the groups that begin with them are found
pub record Begins (t order line₀ line : List ℕ) (head i least : ℕ) (out₀ : List ℕ) (f₀ : ℕ) (out : List ℕ) (f : ℕ) : Type 0 where
  pub place : i ≤ count t
  pub size : length line ≡ length line₀
  pub hour : ℕ
  pub soon : i < count t → hour ≤ begins t (run order i)
  pub swept : Passed t order line head i hour
  pub reached : Reached t order i
  pub grown : Grown (Shown t least) (BegunBy t order i least) out₀ f₀ out f
  pub only : (c : Row) → Held out f c → BegunBy t order i least c

module _ {t order line₀ : List ℕ} (T : AtTable t order line₀) where
  pub begins_none : (least : ℕ) (out : List ℕ) → Begins t order line₀ line₀ 0 0 least out 0 out 0
  begins_none least out =
      record {
        place = omega arith;
        size = refl;
        hour = 0;
        soon = λ h. omega arith;
        swept = swept_start t order line₀;
        reached = reached_none t order;
        grown = grown_as (grown_none {A = Shown t least} (nothing_tidy out)) (λ c s. s) (λ c w. absurd (omega (arith, w.high)));
        only = λ c h. absurd (nothing_held h);
      }

  module _ {line : List ℕ} {head i least : ℕ} {out₀ out : List ℕ} {f₀ f : ℕ} (I : Begins t order line₀ line head i least out₀ f₀ out f) where
    room : count t ≤ length line
    room = le_trans T.room (le_of_eq (sym I.size))

    pub begins_known : Known t line head i
    begins_known = swept_known I.swept T.lined_up I.place (le_trans I.place room)

    -- each row found begins before the run at place i
    pub turn_sooner : {x : ℕ} → i < count t → begins t (run order i) ≡ x → BegunBefore out f x
    turn_sooner more is = record { sooner = λ c h. let w = I.only c h in omega (arith, w.is, is, I.reached.sooner more w.place w.high) }

    -- ---- one turn: x is the begin of the run at place i

    module _ {x head' : ℕ} (more : i < count t) (is : begins t (run order i) ≡ x) (E : Ended t line head i x head') where
      pub turn_joins : EntersAll t order line head' i x
      turn_joins =
          record {
            table = T.table;
            lined_up = T.lined_up;
            room = room;
            place = I.place;
            swept = swept_drop I.swept (le_trans (I.soon more) (le_of_eq is)) E;
          }

      module _ {line' : List ℕ} {next : ℕ} (J : EnteredAll t order line' head' i next x) (size : length line' ≡ length line) where
        pub turn_further : i < next
        turn_further = dite (dec_lt i next) (λ l. l) (λ l. absurd (stuck (omega (arith, J.low))))
          where
            stuck : next ≡ i → ⊥
            stuck e = J.later (omega arith) (ap (λ (k : ℕ). begins t (run order k)) e ∙ is)

        pub turn_begin : AtBegin t (slice_range line' head' next) (slice_range order i next) x
        turn_begin =
            record {
              table = T.table;
              stood = entered_standing T.lined_up J I.reached more is (le_trans J.high (le_trans room (le_of_eq (sym size))));
              begun = entered_beginning T.lined_up J I.reached more is;
            }

        pub turn_more : {out' : List ℕ} {f' : ℕ} → Grown (ShownFrom t least x) (ShownFrom t least x) out f out' f'
            → Begins t order line₀ line' head' next least out₀ f₀ out' f'
        turn_more g =
            let R = reached_next T.lined_up J I.reached more is in
            record {
              place = J.high;
              size = size ∙ I.size;
              hour = x;
              soon = λ h. le_trans (le_of_eq (sym is)) (le_of_lt (R.sooner h i turn_further));
              swept = J.swept;
              reached = R;
              grown = grown_trans I.grown g (λ c s. s) (λ c s. s.shown) (λ c w. dite (dec_lt w.place i)
                  (λ l. inl (record { shown = w.shown; place = w.place; high = l; is = w.is }))
                  (λ l. inr (record { shown = w.shown; from = sym w.is ∙ J.begun w.place (omega arith) w.high })));
              only = λ c h. ⊎_elim
                  (λ k. let w = I.only c k in record { shown = w.shown; place = w.place; high = lt_of_lt_of_le w.high (le_of_lt turn_further); is = w.is })
                  (λ s. record { shown = s.shown; place = i; high = turn_further; is = is ∙ sym s.from })
                  (g.sound c h);
            }

    -- ---- the ways out

    -- every run is passed, and every group begins with one
    pub begins_all : count t ≤ i → Grown (Shown t least) (Shown t least) out₀ f₀ out f
    begins_all h = grown_as I.grown (λ c s. s)
        (λ c s.
        let w = group_first_link s.group in
        let p = T.lined_up.all w.pair.link w.pair.covers.there in
        I.grown.complete c (record { shown = s; place = p.place; high = lt_of_lt_of_le p.high h; is = ap (begins t) p.is ∙ w.first }))

    -- the groups of the next begin found no room
    pub begins_overgrown : {x : ℕ} {out' : List ℕ} → Overgrown (ShownFrom t least x) out f out' → Overgrown (Shown t least) out₀ f₀ out'
    begins_overgrown = overgrown_after I.grown (λ c s. s) (λ c s. s.shown)

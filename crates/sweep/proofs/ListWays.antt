-- The ways out of the list: the rows that the sweep found are the list of the groups, or there are more groups than room; and clearing the buffer. Assumes nothing.
use mathlib.Core.Logic.{◌⊎◌, ⊎_elim}
use mathlib.Core.Path.{◌≡◌, refl, sym, ap, ◌∙◌}
use mathlib.Core.List.{List}
use Prim.Native.Nat.{ℕ, ◌*◌, ◌≤◌, ◌<◌}
use native.Mathlib.Omega.{arith}
use lib.ListN.{length, get_or}
use Rattle.cliques.specs.Groups.{Row}
use Rattle.cliques.specs.Lists.{InList}
use Rattle.cliques.specs.Buffers.{row, whole_rows, ListIn, TooMany, Cleared}
use Rattle.cliques.proofs.Order.{before_differ}
use Rattle.cliques.proofs.RowLists.{row_at}
use Rattle.cliques.proofs.Reference.{shown_of, shown_listed}
use Rattle.cliques.proofs.CoveredSpans.{covered_lawful, covered_finite}
use Rattle.sweep.specs.Store.{Held, Grown, Overgrown}
use Rattle.sweep.specs.Shown.{Shown}
use Rattle.sweep.proofs.Stores.{nothing_held}
use Rattle.sweep.proofs.Places.{fewer_places}

-- ---- clearing

-- numbers that were unchanged past the whole rows are so after clearing
pub cleared_after : {l l' l'' : List ℕ} → length l' ≡ length l → ((i : ℕ) → 3 * whole_rows l ≤ i → get_or l' i 0 ≡ get_or l i 0) → Cleared l' l'' → Cleared l l''
cleared_after {l} {l'} s r w =
    record { size = w.size ∙ s; zero = λ i k. w.zero i (omega (arith, s)); rest = λ i k. w.rest i (omega (arith, s)) ∙ r i (omega arith) }

-- ---- what the sweep found

-- the rows of a table of spans that are to be shown, by computing
abbrev shown_rows : List ℕ → ℕ → List Row
shown_rows t least = shown_of (covered_lawful t) (covered_finite t) 64 least

-- of rows that were found or added to none, each was added
all_added : (A : Row → Type 0) {before : List ℕ} {c : Row} → Held before 0 c ⊎ A c → A c
all_added A = ⊎_elim (λ z. absurd (nothing_held z)) (λ a. a)

module _ {t : List ℕ} {least : ℕ} {before after : List ℕ} where
  -- with room for all, they are the list
  pub sweep_list : {n : ℕ} → Grown (Shown t least) (Shown t least) before 0 after n → ListIn (Shown t least) before after n
  sweep_list g =
      record {
        list = record {
          holds = record { ordered = g.tidy.ordered; sound = λ i h. all_added (Shown t least) (g.sound (row after i) (record { place = i; there = h; is = refl })) };
          complete = λ c s. let h = g.complete c s in (h.place, h.there, h.is);
        };
        fits = omega (arith, g.tidy.fits, g.size);
        size = g.size;
        rest = g.rest;
      }

  module _ (w : Overgrown (Shown t least) before 0 after) where
    abbrev g : Grown (Shown t least) (λ _. ⊥) before 0 after (whole_rows after)
    g = w.0

    -- the place in the list of a row to be shown
    place : (c : Row) → Shown t least c → InList (row_at (shown_rows t least)) (length (shown_rows t least)) c
    place = (shown_listed (covered_lawful t) (covered_finite t) 64 least).complete

    -- each row of the buffer is to be shown
    row_shown : (i : ℕ) → i < whole_rows after → Shown t least (row after i)
    row_shown i h = all_added (Shown t least) (g.sound (row after i) (record { place = i; there = h; is = refl }))

    -- the list is longer than the room: it has every row of the buffer, and a further one
    pub sweep_too_many : TooMany (Shown t least) before
    sweep_too_many =
        record {
          rows = row_at (shown_rows t least);
          count = length (shown_rows t least);
          list = shown_listed (covered_lawful t) (covered_finite t) 64 least;
          more = omega (arith, g.size, longer);
        }
      where
        extra : InList (row_at (shown_rows t least)) (length (shown_rows t least)) w.1.extra
        extra = place w.1.extra w.1.wanted

        longer : whole_rows after < length (shown_rows t least)
        longer = fewer_places (whole_rows after) (length (shown_rows t least)) extra.0 (λ i h. (place (row after i) (row_shown i h)).0)
            (λ i h. (place (row after i) (row_shown i h)).1)
            (λ i j h k l e. before_differ (g.tidy.ordered i j l k) (sym (place (row after i) (row_shown i h)).2 ∙ ap (row_at (shown_rows t least)) e ∙ (place (row after j) (row_shown j k)).2))
            extra.1
            (λ i h e. w.1.absent (record { place = i; there = h; is = sym (place (row after i) (row_shown i h)).2 ∙ ap (row_at (shown_rows t least)) e ∙ extra.2 }))

    pub sweep_cleared : {clean : List ℕ} → Cleared after clean → Cleared before clean
    sweep_cleared = cleared_after g.size (λ i h. g.rest i (omega (arith, g.size)))

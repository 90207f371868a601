-- The reply of the lister, and what the lent buffer then holds. Assumes nothing: these are definitions.
use Rattle.std.specs.Prelude.{◌≡◌, List, ℕ, Result, Ok, Err}
use Rattle.links.specs.Spans.{Spans}
use Rattle.cliques.specs.Buffers.{ListIn, TooMany, Cleared}
use Rattle.sweep.specs.Shown.{Shown}
use Rattle.sweep.specs.declared.reply.Unlisted.{Unlisted}
use Rattle.sweep.specs.declared.reply.Unlisted.TheVariants.{Full, NotSpans}

-- What the lister answers of the numbers t, and what becomes of the buffer: that they are no table of spans, all lent memory unchanged; or the number of the
-- groups with at least so many gauges, which are then in the buffer; or, with too little room for them, that it is full, and the whole rows are 0.
pub data Sweeping (t : List ℕ) (least : ℕ) (before : List ℕ) (reply : Result ℕ Unlisted) (after : List ℕ) : Type 0 where
  not_spans : (Spans t → ⊥) → reply ≡ Err NotSpans → after ≡ before → Sweeping t least before reply after
  listed : {k : ℕ} → Spans t → reply ≡ Ok k → ListIn (Shown t least) before after k → Sweeping t least before reply after
  full : Spans t → TooMany (Shown t least) before → reply ≡ Err Full → Cleared before after → Sweeping t least before reply after

-- A text that does not fit leaves the buffer as it was; a buffer of 440,332 bytes is never too short, and then its front is the text. Assumes nothing.
use mathlib.Core.Logic.{dite}
use mathlib.Core.List.{List}
use mathlib.Core.Path.{◌≡◌, sym, ap, subst, ◌∙◌}
use Prim.Native.Nat.{ℕ, ◌≤◌, ◌<◌}
use native.Mathlib.Decide.{dec_le}
use native.Mathlib.Omega.{arith}
use lib.ListN.{length, get_or, take}
use lib.Seq.{ext_get_or, length-take-le, get_or-take}
use Rattle.std.specs.Prelude.{Option, Some, None}
use Rattle.lines.specs.Replies.{Placed}
use Rattle.report.specs.Listings.{ListingText}
use Rattle.report.specs.Replies.{Prints}
use Rattle.report.proofs.Sizes.{text_most}

-- a text placed at the start is the front of the buffer
placed_front : {text before after : List ℕ} → length text ≤ length before → Placed text before 0 after → take (length text) after ≡ text
placed_front {text} {before} {after} h p =
    let size = length-take-le (length text) after (omega (arith, p.size)) in
    ext_get_or 0 (take (length text) after) text size (λ k l.
    let low : k < length text = omega (arith, size) in
    get_or-take (length text) after k 0 low ∙ ap (λ (n : ℕ). get_or after n 0) (omega arith) ∙ p.there k low)

-- where the text did not fit, the buffer is as it was
pub short_unchanged : {input before after : List ℕ} {r : Option ℕ} → Prints input before r after → r ≡ None → after ≡ before
short_unchanged {before = before} P e =
    dite (dec_le (length P.text) (length before))
    (λ h. let said = P.put.upto (omega arith) in absurd (cc))
    (λ h. P.put.unchanged (omega arith))

module _ {input before after : List ℕ} {r : Option ℕ} (P : Prints input before r after) (room : 440332 ≤ length before) where
  pub never_short : r ≡ Some (length P.text)
  never_short = P.put.upto (omega (arith, text_most P.is)) ∙ ap Some (omega arith)

  module _ {n : ℕ} (e : r ≡ Some n) where
    pub text_length : n ≡ length P.text
    text_length = let said = never_short in cc

    pub text_fits : n ≤ length after
    text_fits = omega (arith, text_length, text_most P.is, (P.put.placed (omega (arith, text_most P.is))).size)

    -- the front of the buffer is the text for the input
    pub text_is : ListingText input (take n after)
    text_is =
        let front = placed_front (omega (arith, text_most P.is)) (P.put.placed (omega (arith, text_most P.is))) in
        subst (ListingText input) (sym (ap (λ (m : ℕ). take m after) text_length ∙ front)) P.is

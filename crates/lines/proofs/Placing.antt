-- Text in a buffer: one byte, one text behind another, one text before another, and what the functions answer. Assumes nothing.
use mathlib.Core.Logic.{dite}
use mathlib.Core.List.{List, [], ◌∷◌, ◌++◌}
use mathlib.Core.Path.{◌≡◌, refl, sym, ap, subst, ◌∙◌}
use Prim.Native.Nat.{ℕ, ◌+◌, ◌-◌, ◌≤◌, ◌<◌}
use native.Mathlib.Decide.{dec_lt}
use native.Mathlib.Omega.{arith}
use lib.ListN.{length, get_or, set, length-set, length-append, get_or-append}
use lib.Seq.{get_or-set_same, get_or-set_other, get_or-append-add}
use Rattle.std.specs.Prelude.{Some, None}
use Rattle.lines.specs.Replies.{Placed, Puts}
use Rattle.lines.specs.declared.write.Writer.{Writer}
use Rattle.lines.specs.Pieces.{Adds}

pub placed_none : (l : List ℕ) (at : ℕ) → Placed [] l at l
placed_none l at = record { size = refl; low = λ k h. refl; there = λ k h. absurd (omega arith); high = λ k h. refl }

pub placed_byte : (l : List ℕ) (at b : ℕ) → at < length l → Placed (b ∷ []) l at (set l at b)
placed_byte l at b room =
    record {
      size = length-set l at b;
      low = λ k h. get_or-set_other l at k b 0 (λ e. omega arith);
      there = λ k h.
          let first : k ≡ 0 = omega arith in
          ap (λ (n : ℕ). get_or (set l at b) (at + n) 0) first ∙ ap (λ (n : ℕ). get_or (set l at b) n 0) (omega arith) ∙ get_or-set_same l at b 0 room
          ∙ ap (λ (n : ℕ). get_or (b ∷ []) n 0) (sym first);
      high = λ k h. get_or-set_other l at k b 0 (λ e. omega arith);
    }

-- two texts, one behind the other, are placed if each stands at its place and all else is as it was
placed_both : (a b : List ℕ) {before after : List ℕ} {at : ℕ} → length after ≡ length before
    → ((k : ℕ) → k < at → get_or after k 0 ≡ get_or before k 0)
    → ((k : ℕ) → k < length a → get_or after (at + k) 0 ≡ get_or a k 0)
    → ((k : ℕ) → k < length b → get_or after (at + length a + k) 0 ≡ get_or b k 0)
    → ((k : ℕ) → at + length a + length b ≤ k → get_or after k 0 ≡ get_or before k 0)
    → Placed (a ++ b) before at after
placed_both a b {before} {after} {at} size low first second high =
    record {
      size = size;
      low = low;
      there = λ k h. dite (dec_lt k (length a))
          (λ l. first k l ∙ sym (get_or-append a b 0 k l))
          (λ l.
          let m = k - length a in
          ap (λ (n : ℕ). get_or after n 0) (omega arith) ∙ second m (omega (arith, length-append a b)) ∙ sym (get_or-append-add a b m 0)
          ∙ ap (λ (n : ℕ). get_or (a ++ b) n 0) (omega arith));
      high = λ k h. high k (omega (arith, length-append a b));
    }

-- a text is put behind one that is there
pub placed_then : {a b l l' l'' : List ℕ} {at to : ℕ} → Placed a l at l' → to ≡ at + length a → Placed b l' to l'' → Placed (a ++ b) l at l''
placed_then {a} {b} {l} {l'} {l''} {at} {to} p e q =
    placed_both a b
    (q.size ∙ p.size)
    (λ k h. q.low k (omega arith) ∙ p.low k h)
    (λ k h. q.low (at + k) (omega arith) ∙ p.there k h)
    (λ k h. ap (λ (n : ℕ). get_or l'' n 0) (omega arith) ∙ q.there k h)
    (λ k h. q.high k (omega arith) ∙ p.high k (omega arith))

-- a text is put before one that is there
pub placed_before : {a b l l' l'' : List ℕ} {at to : ℕ} → Placed b l to l' → to ≡ at + length a → Placed a l' at l'' → Placed (a ++ b) l at l''
placed_before {a} {b} {l} {l'} {l''} {at} {to} p e q =
    placed_both a b
    (q.size ∙ p.size)
    (λ k h. q.low k h ∙ p.low k (omega arith))
    (λ k h. q.there k h)
    (λ k h. q.high (at + length a + k) (omega arith) ∙ ap (λ (n : ℕ). get_or l' n 0) (omega arith) ∙ p.there k h)
    (λ k h. q.high k (omega arith) ∙ p.high k (omega arith))

-- ---- by a writer

pub adds_none : (w : Writer) → Adds [] w w
adds_none w = record { placed = placed_none w.out.now w.at; upto = omega arith; kept = refl }

pub adds_then : {a b : List ℕ} {x y z : Writer} → Adds a x y → Adds b y z → Adds (a ++ b) x z
adds_then {a} {b} p q =
    record { placed = placed_then p.placed p.upto q.placed; upto = omega (arith, p.upto, q.upto, length-append a b); kept = q.kept ∙ p.kept }

-- the same text by another name
pub adds_as : {a b : List ℕ} {x y : Writer} → Adds a x y → b ≡ a → Adds b x y
adds_as {x = x} {y = y} w e = subst (λ (t : List ℕ). Adds t x y) (sym e) w

-- ---- the answers

-- a text that is placed was there room for
pub puts_placed : {text l l' : List ℕ} {at : ℕ} → at + length text ≤ length l → Placed text l at l' → Puts text l at (Some (at + length text)) l'
puts_placed fits p = record { upto = λ h. refl; placed = λ h. p; short = λ h. absurd (omega arith); unchanged = λ h. absurd (omega arith) }

pub puts_short : (text l : List ℕ) (at : ℕ) → length l < at + length text → Puts text l at None l
puts_short text l at h = record { upto = λ k. absurd (omega arith); placed = λ k. absurd (omega arith); short = λ k. refl; unchanged = λ k. refl }

-- No second reply and no second buffer fit: the promise of each public function, which is one statement over its text, fixes both. Assumes nothing.
use mathlib.Core.Logic.{dite}
use mathlib.Core.List.{List}
use mathlib.Core.Path.{◌≡◌, sym, ap, ◌∙◌}
use Prim.Native.Nat.{ℕ, ◌+◌, ◌-◌, ◌<◌}
use native.Mathlib.Decide.{dec_le, dec_lt}
use native.Mathlib.Omega.{arith}
use lib.ListN.{length, get_or}
use lib.Seq.{ext_get_or}
use Rattle.std.specs.Prelude.{Option}
use Rattle.lines.specs.Text.{header_of, row_of, refusal_of, list_of}
use Rattle.lines.specs.Replies.{Placed, Puts}

-- one text at one place of a buffer makes one buffer
pub placed_one : {text l a b : List ℕ} {at : ℕ} → Placed text l at a → Placed text l at b → a ≡ b
placed_one {text} {l} {a} {b} {at} p q = ext_get_or 0 a b (p.size ∙ sym q.size) (λ k h. same k)
  where
    same : (k : ℕ) → get_or a k 0 ≡ get_or b k 0
    same k = dite (dec_lt k at)
        (λ h. p.low k h ∙ sym (q.low k h))
        (λ h. dite (dec_le (at + length text) k)
        (λ g. p.high k g ∙ sym (q.high k g))
        (λ g.
        let m = k - at in
        let e : k ≡ at + m = omega arith in
        ap (λ (n : ℕ). get_or a n 0) e ∙ p.there m (omega arith) ∙ sym (q.there m (omega arith)) ∙ ap (λ (n : ℕ). get_or b n 0) (sym e)))

-- of a function that puts a text
pub puts_one : {text l a b : List ℕ} {at : ℕ} {r s : Option ℕ} → Puts text l at r a → Puts text l at s b → (r ≡ s) × (a ≡ b)
puts_one {text} {l} {at = at} p q =
    dite (dec_le (at + length text) (length l))
    (λ h. (p.upto h ∙ sym (q.upto h), placed_one (p.placed h) (q.placed h)))
    (λ f. let h : length l < at + length text = omega arith in (p.short h ∙ sym (q.short h), p.unchanged h ∙ sym (q.unchanged h)))

-- of `header`, `row`, `refusal` and `list`
pub header_one : (count : ℕ) {l a b : List ℕ} {at : ℕ} {r s : Option ℕ} → Puts (header_of count) l at r a → Puts (header_of count) l at s b → (r ≡ s) × (a ≡ b)
header_one count = puts_one

pub row_one : (begin end members : ℕ) {l a b : List ℕ} {at : ℕ} {r s : Option ℕ}
    → Puts (row_of begin end members) l at r a → Puts (row_of begin end members) l at s b → (r ≡ s) × (a ≡ b)
row_one begin end members = puts_one

pub refusal_one : (reason place : ℕ) {l a b : List ℕ} {at : ℕ} {r s : Option ℕ}
    → Puts (refusal_of reason place) l at r a → Puts (refusal_of reason place) l at s b → (r ≡ s) × (a ≡ b)
refusal_one reason place = puts_one

pub list_one : (rows : List ℕ) {l a b : List ℕ} {at : ℕ} {r s : Option ℕ} → Puts (list_of rows) l at r a → Puts (list_of rows) l at s b → (r ≡ s) × (a ≡ b)
list_one rows = puts_one

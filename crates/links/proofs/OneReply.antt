-- No second reply fits the three checks: each promise fixes the reply for every input. (The pair test's is `cover_one` of `PairTest`.) Assumes nothing.
use mathlib.Core.Path.{◌≡◌, refl, sym, ap, ◌∙◌}
use mathlib.Core.List.{List}
use Rattle.std.specs.Prelude.{Ok, Err}
use Prim.Native.Nat.{ℕ}
use Rattle.links.specs.Faults.{head_fault, table_fault}
use Rattle.links.specs.Replies.{Check, fault_of, SpansChecked, spans, no_spans}
use Rattle.links.proofs.Numbered.{refusal_one}
use Rattle.links.proofs.LineLaws.{by_begin_one}
use Rattle.links.proofs.Reasons.{fault≢no_fault, reason_of, place_of}

-- two replies with the same fault are the same reply
pub fault_of_one : (a b : Check) → fault_of a ≡ fault_of b → a ≡ b
fault_of_one (Ok u) (Ok v) e = refl
fault_of_one (Ok u) (Err s) e = absurd (fault≢no_fault (sym e))
fault_of_one (Err r) (Ok v) e = absurd (fault≢no_fault e)
fault_of_one (Err r) (Err s) e = ap Err (refusal_one (ap reason_of e) (ap place_of e))

-- no second reply fits `check`
pub check_one : (t : List ℕ) (g : ℕ) (a b : Check) → fault_of a ≡ table_fault t g → fault_of b ≡ table_fault t g → a ≡ b
check_one t g a b p q = fault_of_one a b (p ∙ sym q)

-- nor `check_head`
pub check_head_one : (t : List ℕ) (g : ℕ) (a b : Check) → fault_of a ≡ head_fault t g → fault_of b ≡ head_fault t g → a ≡ b
check_head_one t g a b p q = fault_of_one a b (p ∙ sym q)

-- nor `check_spans`, and no second content of the line
pub check_spans_one : {t before : List ℕ} {a b : Check} {l m : List ℕ} → SpansChecked t before a l → SpansChecked t before b m → (a ≡ b) × (l ≡ m)
check_spans_one {a = a} {b = b} (spans f e w) (spans f' e' w') = (fault_of_one a b (e ∙ sym e'), by_begin_one w w')
check_spans_one (spans f e w) (no_spans d e' s) = absurd (fault≢no_fault (sym d ∙ f))
check_spans_one (no_spans d e s) (spans f e' w) = absurd (fault≢no_fault (sym d ∙ f))
check_spans_one {a = a} {b = b} (no_spans d e s) (no_spans d' e' s') = (fault_of_one a b (e ∙ sym d ∙ d' ∙ sym e'), s ∙ sym s')

-- Tables of spans: their fault is none exactly if they are one, and an accepted table of links is one. Assumes nothing.
use mathlib.Core.Bool.{Bool, true, false, true≢false}
use mathlib.Core.Path.{◌≡◌, refl, sym, ◌∙◌}
use mathlib.Core.List.{List}
use Prim.Native.Nat.{ℕ}
use native.Mathlib.Nat.{lt_of_lt_of_le}
use native.Mathlib.Omega.{arith}
use Rattle.std.specs.Prelude.{Ok, Err, is_err}
use Rattle.links.specs.Links.{Accepted}
use Rattle.links.specs.Spans.{Spans, LinesUp, stands, stands_not}
use Rattle.links.specs.Lines.{ByBegin}
use Rattle.links.specs.Faults.{no_fault, fault, spans_fault}
use Rattle.links.specs.Replies.{Check, fault_of, SpansChecked, spans, no_spans}
use Rattle.links.proofs.Reasons.{fault≢no_fault, no_fault_accepted, accepted_no_fault}

-- an accepted table is a table of spans, whatever its gauge count
pub accepted_spans : {t : List ℕ} {g : ℕ} → Accepted t g → Spans t
accepted_spans A =
    record {
      whole = A.whole;
      few = A.few;
      known_one = λ i h. lt_of_lt_of_le (A.known_one i h) A.few_gauges;
      known_other = λ i h. lt_of_lt_of_le (A.known_other i h) A.few_gauges;
      two = A.two;
      forward = A.forward;
      in_time = A.in_time;
      apart = A.apart;
    }

-- and one of 64 gauges is nothing more
spans_accepted : {t : List ℕ} → Spans t → Accepted t 64
spans_accepted S =
    record {
      whole = S.whole;
      few = S.few;
      some_gauge = omega arith;
      few_gauges = omega arith;
      known_one = S.known_one;
      known_other = S.known_other;
      two = S.two;
      forward = S.forward;
      in_time = S.in_time;
      apart = S.apart;
    }

-- numbers have no fault exactly if they are a table of spans
pub no_fault_spans : (t : List ℕ) → spans_fault t ≡ no_fault → Spans t
unfolding spans_fault
no_fault_spans t e = accepted_spans (no_fault_accepted t 64 e)

pub spans_no_fault : (t : List ℕ) → Spans t → spans_fault t ≡ no_fault
unfolding spans_fault
spans_no_fault t S = accepted_no_fault t 64 (spans_accepted S)

-- ---- what the check of spans tells

-- accepted, the numbers are a table of spans, and the line has them by begin;
pub checked_spans : {t before after : List ℕ} {r : Check} → SpansChecked t before r after → fault_of r ≡ no_fault → Spans t × ByBegin t before after
checked_spans {t} (spans f e w) q = (no_fault_spans t f, w)
checked_spans (no_spans d e s) q = absurd (fault≢no_fault (sym e ∙ q))

-- refused, they are none
pub checked_none : {t before after : List ℕ} {r : Check} {n p : ℕ} → SpansChecked t before r after → fault_of r ≡ fault n p → Spans t → ⊥
checked_none (spans f e w) q S = fault≢no_fault (sym q ∙ e)
checked_none {t} (no_spans d e s) q S = fault≢no_fault (sym d ∙ spans_no_fault t S)

-- and whether it is refused says which
pub checked_ok : {t before after : List ℕ} (r : Check) → SpansChecked t before r after → is_err r ≡ false → Spans t × ByBegin t before after
checked_ok (Ok u) w e = checked_spans w refl
checked_ok (Err why) w e = absurd (true≢false e)

pub checked_err : {t before after : List ℕ} (r : Check) → SpansChecked t before r after → is_err r ≡ true → Spans t → ⊥
checked_err (Ok u) w e = absurd (true≢false (sym e))
checked_err (Err why) w e = checked_none w refl

-- ---- what the quick test tells

-- where it says yes, the numbers are a table of spans, and the line has them by begin;
pub lines_up_spans : {t before after : List ℕ} {r : Bool} → LinesUp t before r after → r ≡ true → Spans t × ByBegin t before after
lines_up_spans (stands e S w) q = (S, w)
lines_up_spans (stands_not e s) q = absurd (true≢false (sym q ∙ e))

-- where it says no, the line is unchanged
pub lines_up_not : {t before after : List ℕ} {r : Bool} → LinesUp t before r after → r ≡ false → after ≡ before
lines_up_not (stands e S w) q = absurd (true≢false (sym e ∙ q))
lines_up_not (stands_not e s) q = s

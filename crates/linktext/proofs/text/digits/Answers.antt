-- `linktext::text::digits` meets its contract. The loop's invariant: the digits passed have this value, and the number goes on. Assumes nothing.
use Rattle.std.proofs.Common.{sym, ap, ◌∙◌, ◌*◌, ◌+◌, ℕ, arith}
use Rattle.linktext.proofs.TextLaws.{more_digits, large_digits, last_digits}
use Rattle.linktext.proofs.text.digits.Goals as goal
use Rattle.linktext.proofs.text.digits.Goals.{in_default, in-len1-up+then-not-is_ascii_digit}

pub returns-then-value-gt-LARGEST : goal.returns-then-value-gt-LARGEST
returns-then-value-gt-LARGEST c =
    sym (large_digits c.loop-rest.value c.loop-rest.rest.now c.in-len1-up.len_at_least c.if-not-is_ascii_digit.ensures.cases (omega arith))
    ∙ c.loop-rest.invariant.same

pub loop-rest-preserved : goal.loop-rest-preserved
loop-rest-preserved c = record {
  small = omega arith;
  same = more_digits c.loop-rest.value c.loop-rest.rest.now _ c.in-len1-up.len_at_least (omega arith) c.if-not-is_ascii_digit.ensures.cases
      (ap (λ (n : ℕ). c.loop-rest.value * 10 + n) c.from.ensures) (omega arith)
      ∙ c.loop-rest.invariant.same;
}

pub returns : goal.returns
returns c =
    elim c.if-rest-lt1.branch [
      | in_default w ↦ sym (last_digits c.loop-rest.value c.loop-rest.rest.now (λ h. absurd (omega arith))) ∙ c.loop-rest.invariant.same
      | in-len1-up+then-not-is_ascii_digit w ↦ sym (last_digits c.loop-rest.value c.loop-rest.rest.now (λ h. w.if-not-is_ascii_digit.ensures.cases)) ∙ c.loop-rest.invariant.same
    ]

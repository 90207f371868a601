-- `linktext::text::line` meets its contract. The loop's invariant: the numbers taken so far, and how the line goes on. Assumes nothing.
use Rattle.std.proofs.Common.{◌≡◌, ap, ◌∙◌, Err, rules, arith}
use Rattle.linktext.specs.Texts.{leading}
use Rattle.linktext.specs.Steps.{line_in}
use Rattle.linktext.proofs.LineLaws.{line_more, line_broken, line_end}
use Rattle.linktext.proofs.text.line.Goals as goal

pub returns-in_err-found : goal.returns-in_err-found
returns-in_err-found c =
    let same : c.from_residual.result ≡ Err c.in_err-found.field-0.0 = search rules in
    ap (line_in _) same ∙ line_broken c.loop-number.invariant c.loop-number-test.true (c.in_err-found.ensures ∙ ap leading c.behind_spaces.ensures)

pub loop-number-preserved : goal.loop-number-preserved
loop-number-preserved c = line_more c.loop-number.invariant c.loop-number-test.true (c.in_ok-found.ensures ∙ ap leading c.behind_spaces.ensures)

pub returns : goal.returns
returns c = line_end c.loop-number.invariant (omega arith) (c.end_of_line.ensures c.loop-number.numbers)

-- `question::refuse` meets its contract: each way out is a law of `Reasons`. Assumes nothing.
use mathlib.Core.Path.{◌≡◌, sym, ap, ◌∙◌}
use native.Mathlib.Omega.{arith}
use borrow.Author.Rules.{rules}
use Rattle.links.specs.Faults.{no_fault, table_fault}
use Rattle.links.specs.Replies.{fault_of}
use Rattle.links.proofs.FaultLaws.{refused_at}
use Rattle.question.proofs.Reasons.{past_known, past_given, question_table, question_10, question_11, question_12, question_none}
use Rattle.question.proofs.refuse.Goals as goal

pub returns-in_err-check : goal.returns-in_err-check
returns-in_err-check c =
    let same : c.from_residual.result ≡ c.check.result = search rules in
    let found = sym c.in_err-check.ensures in
    ap fault_of same ∙ c.check.ensures ∙ found ∙ sym (question_table c.args.numbers.now c.args.gauges c.args.members c.args.begin c.args.end found)

pub returns-then-members-below-ne0 : goal.returns-then-members-below-ne0
returns-then-members-below-ne0 c =
    let clear : table_fault c.args.numbers.now c.args.gauges ≡ no_fault = sym c.in_ok-check.ensures in
    refused_at c.at.ensures (question_10 c.args.numbers.now c.args.gauges c.args.members c.args.begin c.args.end clear
    (past_given c.below.ensures c.ranges.members.fits c.below.type_inv c.args.numbers.now c.args.begin c.args.end c.if-members-below-ne0.true))

pub returns-then-size-lt2 : goal.returns-then-size-lt2
returns-then-size-lt2 c =
    let clear : table_fault c.args.numbers.now c.args.gauges ≡ no_fault = sym c.in_ok-check.ensures in
    refused_at c.at-then-size-lt2.ensures (question_11 c.args.numbers.now c.args.gauges c.args.members c.args.begin c.args.end clear
    (past_known c.below.ensures c.ranges.members.fits c.below.type_inv c.if-members-below-ne0.false)
    (omega (arith, c.size.ensures, c.if-size-lt2.true)))

pub returns-then-end-begin : goal.returns-then-end-begin
returns-then-end-begin c =
    let clear : table_fault c.args.numbers.now c.args.gauges ≡ no_fault = sym c.in_ok-check.ensures in
    refused_at c.at-then-end-begin.ensures (question_12 c.args.numbers.now c.args.gauges c.args.members c.args.begin c.args.end clear
    (past_known c.below.ensures c.ranges.members.fits c.below.type_inv c.if-members-below-ne0.false)
    (omega (arith, c.size.ensures, c.if-size-lt2.false))
    c.if-end-begin.true)

pub returns : goal.returns
returns c =
    let clear : table_fault c.args.numbers.now c.args.gauges ≡ no_fault = sym c.in_ok-check.ensures in
    sym (question_none c.args.numbers.now c.args.gauges c.args.members c.args.begin c.args.end clear
    (past_known c.below.ensures c.ranges.members.fits c.below.type_inv c.if-members-below-ne0.false)
    (omega (arith, c.size.ensures, c.if-size-lt2.false))
    c.if-end-begin.false)

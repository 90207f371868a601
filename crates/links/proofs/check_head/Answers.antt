-- `links::check_head` meets its contract: each way out is a law of `FaultLaws`. Assumes nothing.
use mathlib.Core.Logic.{inl, inr}
use mathlib.Core.Path.{sym}
use Rattle.links.proofs.FaultLaws.{refused_at, head_1, head_2, head_3, head_none}
use Rattle.links.proofs.check_head.Goals as goal

pub returns-then-numbers-gt0 : goal.returns-then-numbers-gt0
returns-then-numbers-gt0 c = refused_at c.at.ensures (head_1 c.args.numbers.now c.args.gauges c.if-numbers-gt0.true)

pub returns-then-numbers-gt-MOST_LINKS : goal.returns-then-numbers-gt-MOST_LINKS
returns-then-numbers-gt-MOST_LINKS c = refused_at c.at-then-numbers-gt-MOST_LINKS.ensures (head_2 c.args.numbers.now c.args.gauges c.if-numbers-gt0.false c.if-numbers-gt-MOST_LINKS.true)

pub returns-then-gauges-eq0 : goal.returns-then-gauges-eq0
returns-then-gauges-eq0 c = refused_at c.at-then-gauges-eq0.ensures (head_3 c.args.numbers.now c.args.gauges c.if-numbers-gt0.false c.if-numbers-gt-MOST_LINKS.false (inl c.if-gauges-eq0.true))

pub returns-then-gauges-gt-MOST_GAUGES : goal.returns-then-gauges-gt-MOST_GAUGES
returns-then-gauges-gt-MOST_GAUGES c = refused_at c.at-then-gauges-gt-MOST_GAUGES.ensures (head_3 c.args.numbers.now c.args.gauges c.if-numbers-gt0.false c.if-numbers-gt-MOST_LINKS.false (inr c.if-gauges-gt-MOST_GAUGES.true))

pub returns : goal.returns
returns c = sym (head_none c.args.numbers.now c.args.gauges c.if-numbers-gt0.false c.if-numbers-gt-MOST_LINKS.false c.if-gauges-eq0.false c.if-gauges-gt-MOST_GAUGES.false)

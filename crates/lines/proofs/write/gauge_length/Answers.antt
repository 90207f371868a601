-- `lines::write::gauge_length` meets its contract: its three ways out are the three cases of what a gauge adds. Assumes nothing.
use mathlib.Core.Path.{ap}
use native.Mathlib.Omega.{arith}
use lib.ListN.{length}
use Rattle.lines.proofs.GaugeTexts.{more_first, more_next, more_none}
use Rattle.lines.proofs.write.gauge_length.Goals as goal

pub returns-then-len-eq0 : goal.returns-then-len-eq0
returns-then-len-eq0 c = omega (arith, c.decimal_length-digits.ensures.is, ap length (more_first c.args.members c.args.k c.args.len (c.has.ensures.holds c.if-has.true) c.if-len-eq0.true))

pub returns-else-len-eq0 : goal.returns-else-len-eq0
returns-else-len-eq0 c = omega (arith, c.decimal_length-digits.ensures.is, ap length (more_next c.args.members c.args.k c.args.len (c.has.ensures.holds c.if-has.true) c.if-len-eq0.false))

pub returns-else-has : goal.returns-else-has
returns-else-has c = omega (arith, ap length (more_none c.args.members c.args.k c.args.len (c.has.ensures.fails c.if-has.false)))

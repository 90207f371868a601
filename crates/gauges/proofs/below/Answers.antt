-- `gauges::below` meets its contract: a shift of 1, less 1, is the numbers below. Assumes nothing.
use Rattle.gauges.proofs.Computed.{shifted_pos, below_is, below_all}
use Rattle.gauges.proofs.below.Goals as goal

pub overflow_sub-result : goal.overflow_sub-result
overflow_sub-result c = shifted_pos c.args.n c.if-n-lt64.true

pub returns-then-n-lt64 : goal.returns-then-n-lt64
returns-then-n-lt64 c = below_is c.args.n c.if-n-lt64.true

pub returns-else-n-lt64 : goal.returns-else-n-lt64
returns-else-n-lt64 c = below_all c.args.n c.if-n-lt64.false

-- `gauges::only` meets its contract: a shift of 1 has one member. Assumes nothing.
use Rattle.gauges.proofs.Computed.{only_is, only_past}
use Rattle.gauges.proofs.only.Goals as goal

pub returns-then-k-lt64 : goal.returns-then-k-lt64
returns-then-k-lt64 c = only_is c.args.k c.if-k-lt64.true

pub returns-else-k-lt64 : goal.returns-else-k-lt64
returns-else-k-lt64 c = only_past c.args.k c.if-k-lt64.false

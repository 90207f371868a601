-- `gauges::has` meets its contract: the test is `Member` itself, and a number of 64 bits has no bit from 64 on. Assumes nothing.
use Rattle.gauges.proofs.Computed.{tells_past}
use Rattle.gauges.proofs.Laws.{tells_member}
use Rattle.gauges.proofs.has.Goals as goal

pub returns-then-k-lt64 : goal.returns-then-k-lt64
returns-then-k-lt64 c = tells_member c.args.k c.args.m

pub returns-else-k-lt64 : goal.returns-else-k-lt64
returns-else-k-lt64 c = tells_past c.args.k c.args.m c.ranges.m.fits c.if-k-lt64.false

-- `gauges::lowest` meets its contract: a count of trailing zeros is the lowest member. Assumes nothing.
use Rattle.gauges.proofs.Laws.{lowest_is}
use Rattle.gauges.proofs.lowest.Goals as goal

pub returns : goal.returns
returns c = lowest_is c.args.m c.ranges.m.fits

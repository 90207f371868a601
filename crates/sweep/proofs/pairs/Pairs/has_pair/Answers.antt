-- `sweep::pairs::Pairs::has_pair` meets its contract. The loop's invariant: what is left of the set has each of its gauges that is linked to one of it. Assumes nothing.
use Rattle.std.proofs.Common.{rules, ◌≡◌, sym, subst, bit_and}
use Rattle.gauges.proofs.Flags.{tells_yes, tells_no}
use Rattle.sweep.proofs.Worths.{Unpaired, unpaired_start, unpaired_hit, unpaired_next, unpaired_end}
use Rattle.sweep.proofs.pairs.Pairs.has_pair.Goals as goal

pub loop-u-init : goal.loop-u-init
loop-u-init c =
    let all : c.into_iter-u-iterator.result.left ≡ bit_and c.args.set c.args.self.now.tops = search rules in
    (tt {0}, tt {0}, subst (Unpaired c.args.self.now.near c.args.set) (sym all) (unpaired_start c.args.set c.args.self.now.all))

pub returns-then-links-set-ne0 : goal.returns-then-links-set-ne0
returns-then-links-set-ne0 c = tells_yes (unpaired_hit c.loop-u.invariant.2 c.ranges.set.fits c.in-Some.ensures.steps c.links.ensures c.if-links-set-ne0.true)

pub loop-u-preserved : goal.loop-u-preserved
loop-u-preserved c = (tt {0}, tt {0}, unpaired_next c.loop-u.invariant.2 c.ranges.set.fits c.in-Some.ensures.steps c.links.ensures c.if-links-set-ne0.false)

pub returns : goal.returns
returns c = tells_no (unpaired_end c.loop-u.invariant.2 c.in-None.ensures.steps.0)

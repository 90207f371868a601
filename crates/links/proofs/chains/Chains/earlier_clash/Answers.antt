-- `links::chains::Chains::earlier_clash` meets its contract. The loop's invariant: no link of the pair that was walked past clashes with link i. Assumes nothing.
use native.Mathlib.Omega.{arith}
use Rattle.links.proofs.ChainLaws.{walked_start, walked_there, walked_pair, walked_clash, walked_more, walked_less, walked_end}
use Rattle.links.proofs.chains.Chains.earlier_clash.Goals as goal

pub loop-from-init : goal.loop-from-init
loop-from-init c = walked_start c.requires c.pair_of.ensures

pub clash-requires : goal.clash-requires
clash-requires c = (walked_there c.requires c.loop-from.invariant (omega arith), c.requires.there, walked_pair c.requires c.loop-from.invariant (omega arith))

pub returns-then-clash : goal.returns-then-clash
returns-then-clash c = walked_clash c.requires c.loop-from.invariant (omega arith) (c.clash.ensures.holds c.if-clash.true)

pub loop-from-smaller : goal.loop-from-smaller
loop-from-smaller c = walked_less c.requires c.loop-from.invariant (omega arith)

pub loop-from-preserved : goal.loop-from-preserved
loop-from-preserved c = walked_more c.requires c.loop-from.invariant (omega arith) (c.clash.ensures.fails c.if-clash.false)

pub returns : goal.returns
returns c = walked_end c.loop-from.invariant c.loop-from-test.false

-- `links::chains::Chains::earlier_clash`. The loop's invariant: no link of the pair that was walked past clashes with link i. Assumes nothing.
use Rattle.links.proofs.ChainLaws.{Walked}
use Rattle.links.proofs.chains.Chains.earlier_clash.Given as goal

abbrev pub invariant-loop-from : goal.invariant-loop-from
invariant-loop-from l = Walked l.numbers l.i l.from

abbrev pub decreases-loop-from : goal.decreases-loop-from
decreases-loop-from l = l.from

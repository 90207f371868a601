-- `links::chains::Chains::enter` meets its contract: two numbers are written. Assumes nothing.
use Rattle.links.proofs.ChainLaws.{chained_more}
use Rattle.links.proofs.chains.Chains.enter.Goals as goal

pub returns : goal.returns
returns c = chained_more c.requires c.pair_of-pair.ensures

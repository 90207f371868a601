-- `links::check_links` meets its contract: at first there are no chains. Assumes nothing.
use Rattle.links.proofs.ChainLaws.{chained_none}
use Rattle.links.proofs.check_links.Goals as goal

pub check_each-requires : goal.check_each-requires
check_each-requires c = (c.requires.1, chained_none c.args.numbers.now c.requires.0)

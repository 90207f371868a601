-- `sweep::graph::link` meets its contract: two rows are written. Assumes nothing.
use Rattle.sweep.proofs.GraphLaws.{link_linked}
use Rattle.sweep.proofs.graph.link.Goals as goal

pub returns : goal.returns
returns c = link_linked c.requires c.told-adj c.links.ensures c.links-2.ensures c.only-2.ensures c.only.ensures

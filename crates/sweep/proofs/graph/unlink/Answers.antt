-- `sweep::graph::unlink` meets its contract: two rows are written. Assumes nothing.
use Rattle.sweep.proofs.GraphLaws.{part_parted}
use Rattle.sweep.proofs.graph.unlink.Goals as goal

pub returns : goal.returns
returns c =
    part_parted c.requires c.told-adj c.links.ensures c.links-2.ensures c.only-2.ensures c.only.ensures
    c.links.type_inv c.links-2.type_inv c.only-2.type_inv c.only.type_inv

-- `linkfile::take` meets its contract. The loop's invariant: the numbers of the links passed are there. Assumes nothing.
use Rattle.linkfile.proofs.FileLaws.{numbers_none, numbers_next}
use Rattle.linkfile.proofs.take.Goals as goal

pub loop-k-init : goal.loop-k-init
loop-k-init c = numbers_none c.args.bytes.now

pub loop-k-preserved : goal.loop-k-preserved
loop-k-preserved c = numbers_next c.args.bytes.now c.loop-k.k c.loop-k.invariant c.take_link.ensures

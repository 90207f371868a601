-- `linkfile::put_links` meets its contract. The loop's invariant: the records of the links passed are there. Assumes nothing.
use Rattle.linkfile.proofs.FileLaws.{put_links_none, put_links_next}
use Rattle.linkfile.proofs.put_links.Goals as goal

pub loop-i-init : goal.loop-i-init
loop-i-init c = put_links_none c.args.numbers.now

pub loop-i-preserved : goal.loop-i-preserved
loop-i-preserved c = put_links_next c.args.numbers.now c.loop-i.i c.loop-i.invariant c.put_link.ensures

-- `linkfile::put_link` meets its contract: the parts of a link record, one behind the other. Assumes nothing.
use Rattle.linkfile.proofs.FileLaws.{put_link}
use Rattle.linkfile.proofs.put_link.Goals as goal

pub returns : goal.returns
returns c = put_link c.args.numbers.now c.args.i c.put_head.ensures c.put.ensures c.put-2.ensures c.put-3.ensures c.put-4.ensures

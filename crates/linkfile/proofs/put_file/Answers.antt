-- `linkfile::put_file` meets its contract: the parts of a file, one behind the other. Assumes nothing.
use Rattle.linkfile.proofs.FileLaws.{put_file}
use Rattle.linkfile.proofs.put_file.Goals as goal

pub returns : goal.returns
returns c = put_file c.args.numbers.now c.args.gauges c.put_head.ensures c.put.ensures c.put_links.ensures c.put_head-2.ensures c.put-2.ensures

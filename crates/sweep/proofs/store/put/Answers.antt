-- `sweep::store::put` meets its contract: three stores write a row. Assumes nothing.
use Rattle.sweep.specs.Store.{row_of}
use Rattle.sweep.proofs.Puts.{put_written}
use Rattle.sweep.proofs.store.put.Goals as goal

pub returns : goal.returns
returns c = put_written c.args.rows.now c.args.i (row_of c.args.row) c.requires

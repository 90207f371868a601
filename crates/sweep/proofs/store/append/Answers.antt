-- `sweep::store::append` meets its contract: each way out is a law of `Adds`. Assumes nothing.
use native.Mathlib.Omega.{arith}
use Rattle.sweep.proofs.Adds.{append_no_room, append_added}
use Rattle.sweep.proofs.store.append.Goals as goal

pub returns-then-rows-count : goal.returns-then-rows-count
returns-then-rows-count c = append_no_room c.requires.0 _ c.requires.1 (omega arith)

pub returns : goal.returns
returns c = append_added c.requires.0 _ c.requires.1 c.put.ensures (omega arith)

-- `lines::refusals::RefusalPiece::put` meets its contract: the parts of the line are put one behind the other. Assumes nothing.
use Rattle.lines.specs.Text.{refusal_of}
use Rattle.lines.proofs.Placing.{adds_then}
use Rattle.lines.proofs.refusals.RefusalPiece.put.Goals as goal

pub returns : goal.returns
unfolding refusal_of
returns c = adds_then (adds_then (adds_then (adds_then c.word.ensures c.decimal.ensures) c.byte.ensures) c.decimal-2.ensures) c.byte-2.ensures

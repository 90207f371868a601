-- `lines::headers::HeaderPiece::put` meets its contract: the parts of the line are put one behind the other. Assumes nothing.
use Rattle.lines.specs.Text.{header_of}
use Rattle.lines.proofs.Placing.{adds_then}
use Rattle.lines.proofs.headers.HeaderPiece.put.Goals as goal

pub returns : goal.returns
unfolding header_of
returns c = adds_then (adds_then c.word.ensures c.decimal.ensures) c.byte.ensures

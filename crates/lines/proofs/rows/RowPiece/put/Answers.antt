-- `lines::rows::RowPiece::put` meets its contract: the parts of the line are put one behind the other. Assumes nothing.
use Rattle.lines.specs.Text.{row_of}
use Rattle.lines.proofs.Placing.{adds_then}
use Rattle.lines.proofs.rows.RowPiece.put.Goals as goal

pub returns : goal.returns
unfolding row_of
returns c =
    let span = adds_then (adds_then (adds_then c.decimal.ensures c.byte.ensures) c.decimal-2.ensures) c.byte-2.ensures in
    adds_then (adds_then span c.gauges.ensures) c.byte-3.ensures

-- `lines::lists::put_rows` meets its contract: the lines of the rows are put one behind the other. Assumes nothing.
use mathlib.Core.Path.{sym, ap, ◌∙◌}
use Prim.Native.Nat.{◌+◌, ◌/◌}
use native.Mathlib.Omega.{arith}
use lib.ListN.{length}
use Rattle.lines.specs.Text.{rows_of}
use Rattle.lines.proofs.Placing.{adds_none, adds_then, adds_as}
use Rattle.lines.proofs.RowTexts.{rows_next, rows_length, rows_upto, chunk_row}
use Rattle.lines.proofs.lists.put_rows.Goals as goal

pub loop-row-init : goal.loop-row-init
unfolding rows_of
loop-row-init c = adds_none c.args.to.now

pub put-requires : goal.put-requires
put-requires c =
    let numbers = c.args.numbers.now in
    let i = c.loop-row.row-index in
    let same = c.from.ensures ∙ chunk_row numbers {i = i} c.as_chunks.ensures.front (omega (arith, c)) in
    let longer = rows_upto numbers {i = i + 1} {n = length numbers / 3} (omega (arith, c)) in
    omega (arith, c.requires, c.loop-row.invariant.upto, c.loop-row.invariant.placed.size, ap length same, rows_length numbers i, longer)

pub loop-row-preserved : goal.loop-row-preserved
loop-row-preserved c =
    let numbers = c.args.numbers.now in
    let i = c.loop-row.row-index in
    let same = c.from.ensures ∙ chunk_row numbers {i = i} c.as_chunks.ensures.front (omega (arith, c)) in
    adds_as (adds_then c.loop-row.invariant (adds_as c.put.ensures (sym same))) (rows_next numbers i)

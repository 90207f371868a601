-- `lines::lists::rows_fit` meets its contract: a row that has no room leaves none for the list. Assumes nothing.
use mathlib.Core.Bool.{true≢false}
use mathlib.Core.Path.{sym, ap, ◌∙◌}
use Prim.Native.Nat.{◌+◌, ◌/◌}
use native.Mathlib.Omega.{arith}
use lib.ListN.{length}
use Rattle.lines.specs.Text.{rows_of}
use Rattle.lines.proofs.RowTexts.{rows_length, rows_upto, chunk_row}
use Rattle.lines.proofs.lists.rows_fit.Goals as goal

pub loop-row-init : goal.loop-row-init
unfolding rows_of
loop-row-init c = omega arith

pub returns-then-left-size : goal.returns-then-left-size
returns-then-left-size c =
    let numbers = c.args.numbers.now in
    let i = c.loop-row.row-index in
    let same = c.from.ensures ∙ chunk_row numbers {i = i} c.as_chunks.ensures.front (omega (arith, c)) in
    record {
      yes = λ e. absurd (true≢false (sym e));
      no = λ e. omega (arith, c, ap length same, rows_length numbers i, rows_upto numbers {i = i + 1} {n = length numbers / 3} (omega (arith, c)));
    }

pub loop-row-preserved : goal.loop-row-preserved
loop-row-preserved c =
    let numbers = c.args.numbers.now in
    let i = c.loop-row.row-index in
    let same = c.from.ensures ∙ chunk_row numbers {i = i} c.as_chunks.ensures.front (omega (arith, c)) in
    omega (arith, c, ap length same, rows_length numbers i)

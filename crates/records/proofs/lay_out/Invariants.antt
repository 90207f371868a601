-- `records::lay_out`. The loop's invariant: the numbers are those of the first i records, with the rest as it was. Assumes nothing.
use Rattle.std.proofs.Common.{◌≡◌}
use Rattle.records.proofs.Laws.{front}
use Rattle.records.proofs.lay_out.Given as goal

abbrev pub invariant-loop-i : goal.invariant-loop-i
invariant-loop-i l = l.numbers ≡ front l.links l.initial.numbers l.i

-- `lines::write::Writer::decimal`. The loop's invariant: the digits behind those of the rest are placed. Assumes nothing.
use mathlib.Core.Path.{◌≡◌}
use Rattle.lines.proofs.Decimals.{Tail}
use Rattle.lines.proofs.write.Writer.decimal.Given as goal

abbrev pub invariant-loop-place : goal.invariant-loop-place
invariant-loop-place l =
    record {
      tail : Tail l.n l.rest l.initial.self.out.now l.initial.self.at l.place l.self.out.now;
      at : l.self.at ≡ l.initial.self.at;
      kept : l.self.out.ghost_name ≡ l.initial.self.out.ghost_name;
    }

-- `filing::show_all`: the bytes of the file without its last. Assumes nothing.
use Rattle.std.proofs.Common.{sym}
use native.Mathlib.Omega.{arith}
use lib.Seq.{length-take-le}
use Rattle.filing.proofs.show_all.Goals as goal

pub slice_bounds-read-end-3 : goal.slice_bounds-read-end-3
slice_bounds-read-end-3 c = sym (length-take-le 35 c.write.new.bytes (omega arith))

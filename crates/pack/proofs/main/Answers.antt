-- `pack::main` is safe: the file that it prints lies in its buffer. Assumes nothing.
use mathlib.Core.Path.{sym}
use native.Mathlib.Omega.{arith}
use lib.Seq.{length-take-le}
use Rattle.linktext.proofs.OneReply.{packed_fits}
use Rattle.pack.proofs.main.Goals as goal

pub slice_bounds-file-end : goal.slice_bounds-file-end
slice_bounds-file-end c = omega (arith, c.pack.auto.file, packed_fits c.pack.ensures c.in-Ok.is)

pub slice_bounds-write_all-end : goal.slice_bounds-write_all-end
slice_bounds-write_all-end c = sym (length-take-le _ _ (omega (arith, c.pack.auto.file, packed_fits c.pack.ensures c.in-Ok.is)))

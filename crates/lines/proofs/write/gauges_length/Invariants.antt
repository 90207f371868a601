-- `lines::write::gauges_length`. The loop's invariant: the length is that of the text of the gauges passed. Assumes nothing.
use mathlib.Core.Path.{◌≡◌}
use lib.ListN.{length}
use Rattle.lines.proofs.GaugeTexts.{text_below}
use Rattle.lines.proofs.write.gauges_length.Given as goal

abbrev pub invariant-loop-k : goal.invariant-loop-k
invariant-loop-k l = l.len ≡ length (text_below l.members l.k)

-- `lines::write::Writer::gauges`. The loop's invariant: the text of the gauges passed is put. Assumes nothing.
use Rattle.lines.specs.Pieces.{Adds}
use Rattle.lines.proofs.GaugeTexts.{text_below}
use Rattle.lines.proofs.write.Writer.gauges.Given as goal

abbrev pub invariant-loop-k : goal.invariant-loop-k
invariant-loop-k l = Adds (text_below l.members l.k) l.initial.self l.self

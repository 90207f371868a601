-- `linktext::text::links`. The loop's invariant: the links taken so far, and how the text goes on. Assumes nothing.
use Rattle.linktext.proofs.LineLaws.{Turn}
use Rattle.linktext.proofs.text.links.Given as goal

abbrev pub invariant-loop-links : goal.invariant-loop-links
invariant-loop-links l = Turn l.text l.gauges l.rest l.links l.numbers

-- `linkfile::put_links`. The loop's invariant: the records of the links passed are there. Assumes nothing.
use Rattle.linkfile.specs.Files.{link_records}
use Rattle.linkfile.specs.Steps.{Put}
use Rattle.linkfile.proofs.put_links.Given as goal

abbrev pub invariant-loop-i : goal.invariant-loop-i
invariant-loop-i l = Put l.initial.bytes 8 (link_records l.numbers l.i) l.bytes

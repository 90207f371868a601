-- `linkfile::take`. The loop's invariant: the numbers of the links passed are there. Assumes nothing.
use Rattle.linkfile.specs.Steps.{Put}
use Rattle.linkfile.specs.Reading.{numbers_of}
use Rattle.linkfile.proofs.take.Given as goal

abbrev pub invariant-loop-k : goal.invariant-loop-k
invariant-loop-k l = Put l.initial.numbers 0 (numbers_of l.bytes l.k) l.numbers

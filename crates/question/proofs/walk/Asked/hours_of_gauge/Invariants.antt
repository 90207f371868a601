-- `Asked::hours_of_gauge`. The loop's invariant: the pairs that are passed have these hours in common. Assumes nothing.
use Rattle.question.specs.Walks.{Common}
use Rattle.question.proofs.Rests.{Rest}
use Rattle.question.proofs.Reaches.{PassedBeside}
use Rattle.question.proofs.walk.Asked.hours_of_gauge.Given as goal

abbrev pub invariant-loop-v : goal.invariant-loop-v
invariant-loop-v l =
    (goal.iterator-loop-v).can_next l.v-iterator × (goal.iterator-loop-v).is_finite l.v-iterator × Rest l.others l.v-iterator.left
    × Common l.self.numbers.now l.self.begin l.self.end (PassedBeside l.u l.others l.v-iterator.left) l.hours.from l.hours.upto

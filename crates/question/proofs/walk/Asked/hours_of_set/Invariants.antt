-- `Asked::hours_of_set`. The loop's invariant: the pairs whose lower gauge is passed have these hours in common. Assumes nothing.
use Rattle.question.specs.Walks.{Common}
use Rattle.question.proofs.Rests.{Rest}
use Rattle.question.proofs.Reaches.{PassedPair}
use Rattle.question.proofs.walk.Asked.hours_of_set.Given as goal

abbrev pub invariant-loop-u : goal.invariant-loop-u
invariant-loop-u l =
    (goal.iterator-loop-u).can_next l.rest × (goal.iterator-loop-u).is_finite l.rest × Rest l.members l.rest.left
    × Common l.self.numbers.now l.self.begin l.self.end (PassedPair l.members l.rest.left) l.hours.from l.hours.upto

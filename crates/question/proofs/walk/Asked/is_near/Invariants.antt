-- `Asked::is_near`. The loop's invariant: gauge k is joined to every member that is passed. Assumes nothing.
use Rattle.question.proofs.Rests.{Rest}
use Rattle.question.proofs.Fitting.{NearPassed}
use Rattle.question.proofs.walk.Asked.is_near.Given as goal

abbrev pub invariant-loop-u : goal.invariant-loop-u
invariant-loop-u l =
    (goal.iterator-loop-u).can_next l.u-iterator × (goal.iterator-loop-u).is_finite l.u-iterator × Rest l.members l.u-iterator.left
    × NearPassed l.self.numbers.now l.members l.self.begin l.self.end l.k l.u-iterator.left

-- `Asked::lowest_further`. The loop's invariant: no gauge that is passed fits. Assumes nothing.
use Rattle.question.proofs.Rests.{Rest}
use Rattle.question.proofs.Fitting.{NonePassed}
use Rattle.question.proofs.walk.Asked.lowest_further.Given as goal

abbrev pub invariant-loop-k : goal.invariant-loop-k
invariant-loop-k l =
    (goal.iterator-loop-k).can_next l.k-iterator × (goal.iterator-loop-k).is_finite l.k-iterator × Rest l.initial.k-iterator.left l.k-iterator.left
    × NonePassed l.self.numbers.now l.members l.self.begin l.self.end l.initial.k-iterator.left l.k-iterator.left

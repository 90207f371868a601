-- `Members::next` meets its contract: the lowest gauge is taken out, and fewer are left. Assumes nothing.
use Rattle.std.proofs.Common.{rules}
use Rattle.gauges.proofs.Taking.{taken, taken_less}
use Rattle.gauges.proofs.members.MembersIterator.next.Goals as goal

pub returns-clause-steps : goal.returns-clause-steps
returns-clause-steps c = taken (search rules) c.only.type_inv c.if-self-eq0.false c.lowest-k.ensures c.only.ensures

pub returns-clause-goes : goal.returns-clause-goes
returns-clause-goes c =
    let turn = taken (search rules) c.only.type_inv c.if-self-eq0.false c.lowest-k.ensures c.only.ensures in
    record { on = λ _. (tt {0}, tt {0}, taken_less turn); keeps = tt {0}; rests = λ _. tt {0} }

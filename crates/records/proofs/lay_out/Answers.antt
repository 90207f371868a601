-- `records::lay_out` meets its contract: each turn lays one record more. Assumes nothing.
use Rattle.std.proofs.Common.{rules, arith}
use Rattle.records.proofs.Laws.{laid_next, right_length, laid_out}
use Rattle.records.proofs.lay_out.Goals as goal

pub put-requires : goal.put-requires
put-requires c = omega (arith, right_length c.args.links.now c.args.numbers.now c.loop-i.i (omega arith) (omega arith) c.loop-i.invariant)

pub loop-i-preserved : goal.loop-i-preserved
loop-i-preserved c = laid_next c.args.links.now c.args.numbers.now c.loop-i.i _ (omega arith) c.loop-i.invariant c.put.ensures

pub returns : goal.returns
returns c = laid_out c.args.links.now c.args.numbers.now c.loop-i.i (omega arith) (search rules) (omega arith) c.loop-i.invariant

-- `question::verdict` meets its contract: each way out is a law of `Judging`. Assumes nothing.
use Rattle.question.proofs.Reasons.{no_fault_sound}
use Rattle.question.proofs.Judging.{sound_walkable, judge_missing, judge_earlier, judge_later, judge_further, judge_group}
use Rattle.question.proofs.verdict.Goals as goal

pub invariant_of-asked : goal.invariant_of-asked
invariant_of-asked c = record { walkable = sound_walkable (no_fault_sound c.requires); in_64_bits = c.ranges.end.fits }

pub returns-then-hours-begin : goal.returns-then-hours-begin
returns-then-hours-begin c = judge_earlier (no_fault_sound c.requires) c.in-Ok.ensures c.if-hours-begin.true

pub returns-then-end-hours : goal.returns-then-end-hours
returns-then-end-hours c = judge_later (no_fault_sound c.requires) c.in-Ok.ensures c.if-hours-begin.false c.if-end-hours.true

pub lowest_further-requires : goal.lowest_further-requires
lowest_further-requires c = (no_fault_sound c.requires).accepted.few_gauges

pub returns-in-Some : goal.returns-in-Some
returns-in-Some c = judge_further (no_fault_sound c.requires) c.in-Ok.ensures c.if-hours-begin.false c.if-end-hours.false c.in-Some.ensures

pub returns-in-Err : goal.returns-in-Err
returns-in-Err c = judge_missing c.in-Err.ensures

pub returns-in_default : goal.returns-in_default
returns-in_default c = judge_group (no_fault_sound c.requires) c.in-Ok.ensures c.if-hours-begin.false c.if-end-hours.false c.in_default.ensures

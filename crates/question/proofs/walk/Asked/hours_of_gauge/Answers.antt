-- `Asked::hours_of_gauge` meets its contract. The loop's invariant: the pairs that are passed have these hours in common. Assumes nothing.
use Rattle.std.proofs.Common.{rules, ◌≡◌, sym, subst, ◌∙◌, ℕ, ◌-◌, ◌^◌}
use Rattle.question.specs.Walks.{Beside, Common, ReachOf}
use Rattle.question.proofs.Rests.{Rest, rest_all, rest_next, none_left}
use Rattle.question.proofs.Reaches.{PassedBeside, common_none, common_both, common_as, beside_start, beside_next, beside_lacks, beside_end}
use Rattle.question.proofs.walk.Asked.hours_of_gauge.Goals as goal

pub loop-v-init : goal.loop-v-init
loop-v-init c =
    let all : c.into_iter-v-iterator.result.left ≡ c.args.others = search rules in
    let start : (left : ℕ) → left ≡ c.args.others → Rest c.args.others left × Common c.args.self.now.numbers.now c.args.self.now.begin c.args.self.now.end (PassedBeside c.args.u c.args.others left) 0 (2 ^ 64 - 1) = λ left e.
    subst (λ l. Rest c.args.others l × Common c.args.self.now.numbers.now c.args.self.now.begin c.args.self.now.end (PassedBeside c.args.u c.args.others l) 0 (2 ^ 64 - 1)) (sym e) (rest_all c.args.others, common_none c.args.self.now.walkable c.args.self.now.in_64_bits (beside_start c.args.u c.args.others)) in
    let w = start _ all in
    (tt {0}, tt {0}, w.0, w.1)

pub returns-in_err-hours_of_pair : goal.returns-in_err-hours_of_pair
returns-in_err-hours_of_pair c =
    let same : c.from_residual.result ≡ c.hours_of_pair.result = search rules in
    subst (ReachOf c.args.self.now.numbers.now c.args.self.now.begin c.args.self.now.end (Beside c.args.u c.args.others)) (sym (same ∙ c.in_err-hours_of_pair.was))
    (beside_lacks c.loop-v.invariant.2 c.in-Some.ensures.steps c.args.self.now.walkable c.loop-v.invariant.3 c.in_err-hours_of_pair.ensures)

pub loop-v-preserved : goal.loop-v-preserved
loop-v-preserved c = (
  tt {0},
  tt {0},
  rest_next c.loop-v.invariant.2 c.in-Some.ensures.steps,
  common_both c.args.self.now.walkable (beside_next c.loop-v.invariant.2 c.in-Some.ensures.steps c.args.u) c.loop-v.invariant.3 c.in_ok-hours_of_pair.ensures
      c.common-hours.ensures,
)

pub returns : goal.returns
returns c = common_as c.args.self.now.walkable (λ a b p. p.beside) (beside_end (none_left c.in-None.ensures.steps.0)) c.loop-v.invariant.3

-- `sweep::spans::one_span` meets its contract: no run that matters ends with the span; or the sets are found, and put in order. Assumes nothing.
use Rattle.sweep.proofs.Adds.{tidy_loose, past_unseen, adds_settles, adds_settled}
use Rattle.sweep.proofs.Blocks.{settles_part, settled_part}
use Rattle.sweep.proofs.SpanLaws.{span_still}
use Rattle.sweep.proofs.spans.one_span.Goals as goal

pub returns-in-NoRun : goal.returns-in-NoRun
returns-in-NoRun c = span_still c.requires.0 c.count_inner-inner.ensures c.in-NoRun.is c.requires.1

pub find_sets-found-requires : goal.find_sets-found-requires
find_sets-found-requires c = (c.requires.0, c.count_inner-inner.ensures, tidy_loose c.requires.1, past_unseen c.requires.2)

pub settle-requires : goal.settle-requires
settle-requires c = settles_part (adds_settles (λ r s. s.from) (λ r s. s.upto) _ _ c.unwrap_or-end.ensures c.find_sets-found.ensures)

pub returns : goal.returns
returns c =
    adds_settled (λ r s. s.from) (λ r s. s.upto) _ c.requires.1 c.requires.2 _ c.unwrap_or-end.ensures c.find_sets-found.ensures
    (settled_part (adds_settles (λ r s. s.from) (λ r s. s.upto) _ _ c.unwrap_or-end.ensures c.find_sets-found.ensures) c.settle.ensures)

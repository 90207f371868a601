-- `sweep::list` meets its contract: its three ways out. Assumes nothing.
use Rattle.std.proofs.Common.{rules, refl}
use Rattle.links.proofs.SpanLaws.{checked_ok, checked_err}
use Rattle.sweep.specs.Replies.{not_spans, listed, full}
use Rattle.sweep.proofs.SweepLaws.{order_lined_up}
use Rattle.sweep.proofs.ListWays.{sweep_list, sweep_too_many, sweep_cleared}
use Rattle.sweep.proofs.list.Goals as goal

pub returns-then-is_err : goal.returns-then-is_err
returns-then-is_err c = not_spans (checked_err c.check_spans.result c.check_spans.ensures (search rules)) refl refl

pub begins-requires : goal.begins-requires
begins-requires c =
    let w = checked_ok c.check_spans.result c.check_spans.ensures (search rules) in
    record { table = w.0; lined_up = order_lined_up w.1 w.0.few (search rules); room = search rules }

pub returns-in-Ok : goal.returns-in-Ok
returns-in-Ok c = listed (checked_ok c.check_spans.result c.check_spans.ensures (search rules)).0 refl (sweep_list c.in-Ok.ensures)

pub returns-in-Err : goal.returns-in-Err
returns-in-Err c = full (checked_ok c.check_spans.result c.check_spans.ensures (search rules)).0 (sweep_too_many c.in-Err.ensures) refl (sweep_cleared c.in-Err.ensures c.clear.ensures)

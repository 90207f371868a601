-- `links::check_link` meets its contract: each way out is a law of `FaultLaws`. Assumes nothing.
use mathlib.Core.Logic.{inl, inr}
use mathlib.Core.Path.{sym}
use native.Mathlib.Omega.{arith}
use Rattle.links.proofs.FaultLaws.{refused_at, link_4, link_5, link_6, link_7, link_8, link_none}
use Rattle.links.proofs.check_link.Goals as goal

pub returns-then-gauges-u : goal.returns-then-gauges-u
returns-then-gauges-u c = refused_at c.at.ensures (link_4 c.args.numbers.now c.args.gauges c.args.i (inl (omega arith)))

pub returns-then-gauges-v : goal.returns-then-gauges-v
returns-then-gauges-v c = refused_at c.at-then-gauges-v.ensures (link_4 c.args.numbers.now c.args.gauges c.args.i (inr (omega arith)))

pub returns-then-u-v : goal.returns-then-u-v
returns-then-u-v c = refused_at c.at-then-u-v.ensures (link_5 c.args.numbers.now c.args.gauges c.args.i (omega arith) (omega arith) (omega arith))

pub returns-then-end-begin : goal.returns-then-end-begin
returns-then-end-begin c = refused_at c.at-then-end-begin.ensures (link_6 c.args.numbers.now c.args.gauges c.args.i (omega arith) (omega arith) (omega arith) (omega arith))

pub returns-then-end-gt-LAST_HOUR : goal.returns-then-end-gt-LAST_HOUR
returns-then-end-gt-LAST_HOUR c = refused_at c.at-then-end-gt-LAST_HOUR.ensures (link_7 c.args.numbers.now c.args.gauges c.args.i (omega arith) (omega arith) (omega arith) (omega arith) (omega arith))

pub returns-then-is_some : goal.returns-then-is_some
returns-then-is_some c =
    refused_at c.at-then-is_some.ensures (link_8 c.args.numbers.now c.args.gauges c.args.i (omega arith) (omega arith) (omega arith) (omega arith) (omega arith)
    _ c.earlier_clash.ensures (cc))

pub returns : goal.returns
returns c =
    sym (link_none c.args.numbers.now c.args.gauges c.args.i (omega arith) (omega arith) (omega arith) (omega arith) (omega arith)
    _ c.earlier_clash.ensures (cc))

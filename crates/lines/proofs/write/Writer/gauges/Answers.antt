-- `lines::write::Writer::gauges` meets its contract: what each gauge adds is put behind those below it. Assumes nothing.
use mathlib.Core.Path.{◌≡◌, sym, ap}
use native.Mathlib.Omega.{arith}
use Rattle.lines.specs.Text.{commas, gauges_below, gauges_text}
use Rattle.lines.proofs.Placing.{adds_none, adds_as}
use Rattle.lines.proofs.GaugeTexts.{text_below, gauge_room, gauge_next}
use Rattle.lines.proofs.write.Writer.gauges.Goals as goal

pub loop-k-init : goal.loop-k-init
unfolding commas gauges_below
loop-k-init c = adds_none c.args.self.now

pub gauge-requires : goal.gauge-requires
gauge-requires c = (omega (arith, c.loop-k.invariant.upto), gauge_room c.args.members c.loop-k.k c.loop-k.invariant c.loop-k-test.true c.requires)

pub loop-k-preserved : goal.loop-k-preserved
loop-k-preserved c = gauge_next c.args.members c.loop-k.k c.loop-k.invariant c.gauge.ensures

pub returns : goal.returns
unfolding gauges_text
returns c =
    let all : c.loop-k.k ≡ 64 = omega arith in
    adds_as c.loop-k.invariant (sym (ap (text_below c.args.members) all))

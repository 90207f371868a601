-- `lines::write::gauges_length` meets its contract. The loop's invariant: the length is that of the text of the gauges passed. Assumes nothing.
use mathlib.Core.Path.{◌≡◌, sym, ap, ◌∙◌}
use Prim.Native.Nat.{ℕ, ◌+◌}
use native.Mathlib.Omega.{arith}
use lib.ListN.{length}
use Rattle.lines.specs.Text.{commas, gauges_below, gauges_text}
use Rattle.lines.specs.Pieces.{more}
use Rattle.lines.proofs.GaugeTexts.{text_below, length_next, text_few}
use Rattle.lines.proofs.write.gauges_length.Goals as goal

pub loop-k-init : goal.loop-k-init
unfolding commas gauges_below
loop-k-init c = omega arith

pub gauge_length-len-requires : goal.gauge_length-len-requires
gauge_length-len-requires c = omega (arith, text_few c.args.members c.loop-k.k (omega arith))

pub loop-k-preserved : goal.loop-k-preserved
loop-k-preserved c =
    let m = c.args.members in
    c.gauge_length-len.ensures ∙ ap (λ (n : ℕ). n + length (more m c.loop-k.k n)) c.loop-k.invariant ∙ sym (length_next m c.loop-k.k)

pub returns : goal.returns
unfolding gauges_text
returns c =
    let m = c.args.members in
    let all : c.loop-k.k ≡ 64 = omega arith in
    record { is = c.loop-k.invariant ∙ ap (λ (n : ℕ). length (text_below m n)) all; few = omega (arith, text_few m c.loop-k.k (omega arith)) }

-- `lines::write::Writer::decimal` meets its contract: the last digits are put before those behind them. Assumes nothing.
use mathlib.Core.Path.{◌≡◌, refl}
use Prim.Native.Nat.{◌+◌, ◌-◌}
use native.Mathlib.Omega.{arith}
use Rattle.lines.proofs.Decimals.{tail_none, tail_more, tail_all}
use Rattle.lines.proofs.write.Writer.decimal.Goals as goal

pub loop-place-init : goal.loop-place-init
loop-place-init c =
    record { tail = tail_none c.args.n c.args.self.now.out.now c.args.self.now.at _ (omega (arith, c.decimal_length.ensures.is)); at = refl; kept = refl }

pub loop-place-preserved : goal.loop-place-preserved
loop-place-preserved c =
    let kept = c.loop-place.invariant in
    let next : c.loop-place.place ≡ c.loop-place.place - 1 + 1 = omega arith in
    record {
      tail = tail_more (rw next at kept.tail) (omega arith) (omega (arith, c.decimal_length.ensures.is));
      at = kept.at;
      kept = kept.kept;
    }

pub returns : goal.returns
returns c =
    let kept = c.loop-place.invariant in
    record { placed = tail_all kept.tail c.loop-place-test.false; upto = omega (arith, c.decimal_length.ensures.is); kept = kept.kept }

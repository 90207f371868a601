-- `lines::write::decimal_length` meets its contract: a number from a power of ten on, and below the next, has one digit more than the exponent. Assumes nothing.
use native.Mathlib.Omega.{arith}
use Rattle.lines.proofs.Decimals.{length_log, length_u64}
use Rattle.lines.proofs.write.decimal_length.Goals as goal

pub returns : goal.returns
returns c =
    let log = c.checked_ilog10.ensures in
    let is = length_log c.args.n c.checked_ilog10.result log.none log.power_le log.next_power_gt in
    record { is = omega (arith, is, c.unwrap_or.ensures); few = omega (arith, is, c.unwrap_or.ensures, length_u64 c.args.n c.ranges.n.fits) }

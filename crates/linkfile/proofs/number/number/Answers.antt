-- `linkfile::number::number` meets its contract: the four bytes have the number of the W bytes. Assumes nothing.
use mathlib.Core.Path.{refl}
use native.Mathlib.Omega.{arith}
use Rattle.linkfile.proofs.NumberLaws.{number_read}
use Rattle.linkfile.proofs.number.number.Goals as goal

pub returns : goal.returns
returns g c =
    number_read g.row.W c.args.bytes.now c.args.at _ c.requires.fits c.requires.inside (λ i. omega (arith, c.type_inv.bytes i)) c.copy_from_slice.ensures.after refl
    c.from_le_bytes.ensures

-- `linkfile::number::put` meets its contract: the lowest bytes of four are copied to their place. Assumes nothing.
use mathlib.Core.Path.{ap, ◌∙◌}
use lib.ListN.{take}
use Rattle.linkfile.proofs.NumberLaws.{put_part, lowest_bytes, length_bytes}
use Rattle.linkfile.proofs.number.put.Goals as goal

pub returns : goal.returns
returns g c =
    put_part _ c.args.at g.row.W (c.copy_from_slice.ensures.after ∙ ap (take g.row.W) c.to_le_bytes.ensures ∙ lowest_bytes g.row.W c.args.n c.requires.fits)
    (length_bytes g.row.W c.args.n) c.requires.inside

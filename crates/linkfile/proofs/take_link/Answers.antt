-- `linkfile::take_link` meets its contract: the four numbers are copied to their place. Assumes nothing.
use mathlib.Core.Path.{refl, ◌∙◌}
use mathlib.Core.List.{[], ◌∷◌}
use Prim.Native.Nat.{◌*◌}
use Rattle.linkfile.proofs.NumberLaws.{put_part}
use Rattle.linkfile.proofs.take_link.Goals as goal

pub returns : goal.returns
returns c =
    put_part c.args.numbers.now (4 * c.args.k) 4
    (c.copy_from_slice.ensures.after ∙ (λ i. c.number.ensures.is i ∷ c.number-2.ensures.is i ∷ c.number-3.ensures.is i ∷ c.number-4.ensures.is i ∷ [])) refl c.requires.1

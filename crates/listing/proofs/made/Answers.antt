-- `listing::made` meets its contract: with this much room the text is never too long. Assumes nothing.
use mathlib.Core.Path.{sym, ap, subst, ◌∙◌}
use Prim.Native.Nat.{ℕ}
use Rattle.std.specs.Prelude.{Option}
use Rattle.std.specs.Option.{unwrap_or}
use Rattle.listing.specs.Printing.{Printed}
use Rattle.report.proofs.Whole.{never_short, text_fits, text_is}
use Rattle.listing.proofs.made.Goals as goal

pub returns : goal.returns
returns c =
    let said = never_short c.listing.ensures c.requires in
    let whole = c.unwrap_or.ensures ∙ ap (λ (r : Option ℕ). unwrap_or r 0) said in
    subst (Printed c.args.input.now c.listing.new.out) (sym whole) (record { fits = text_fits c.listing.ensures c.requires said; text = text_is c.listing.ensures c.requires said })

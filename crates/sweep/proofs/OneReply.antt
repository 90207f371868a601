-- What the promise of the lister fixes: no second reply and no second buffer fits it. Assumes nothing.
use mathlib.Core.Path.{◌≡◌, sym, ap, ◌∙◌}
use mathlib.Core.List.{List}
use Prim.Native.Nat.{ℕ}
use Rattle.cliques.proofs.OneList.{one_length}
use Rattle.cliques.proofs.Buffers.{list_in_one, cleared_one, fits_not}
use Rattle.sweep.specs.Replies.{Sweeping, not_spans, listed, full}
use Rattle.std.specs.Prelude.{Result, Ok}
use Rattle.sweep.specs.declared.reply.Unlisted.{Unlisted}

-- no second reply fits the lister, and no second buffer
pub sweep_one : {t before : List ℕ} {least : ℕ} {r r' : Result ℕ Unlisted} {after after' : List ℕ} → Sweeping t least before r after → Sweeping t least before r' after'
    → (r ≡ r') × (after ≡ after')
sweep_one (not_spans n e s) (not_spans n' e' s') = (e ∙ sym e', s ∙ sym s')
sweep_one (not_spans n e s) (listed S e' w) = absurd (n S)
sweep_one (not_spans n e s) (full S m e' c) = absurd (n S)
sweep_one (listed S e w) (not_spans n e' s) = absurd (n S)
sweep_one (listed S e w) (listed S' e' w') = (e ∙ ap Ok (one_length w.list w'.list) ∙ sym e', list_in_one w w')
sweep_one (listed S e w) (full S' m e' c) = absurd (fits_not w m)
sweep_one (full S m e c) (not_spans n e' s) = absurd (n S)
sweep_one (full S m e c) (listed S' e' w) = absurd (fits_not w m)
sweep_one (full S m e c) (full S' m' e' c') = (e ∙ sym e', cleared_one c c')

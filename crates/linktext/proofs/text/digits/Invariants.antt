-- `linktext::text::digits`. The loop's invariant: the digits passed have this value, and the number goes on. Assumes nothing.
use Rattle.std.proofs.Common.{◌≡◌, ◌<◌, length}
use Rattle.linktext.specs.Texts.{digits_from}
use Rattle.linktext.proofs.text.digits.Given as goal

abbrev pub invariant-loop-rest : goal.invariant-loop-rest
invariant-loop-rest l = record { small : l.value < 4294967296; same : digits_from l.value l.rest ≡ digits_from 0 l.text }

abbrev pub decreases-loop-rest : goal.decreases-loop-rest
decreases-loop-rest l = length l.rest

-- Where the writer refuses a table that was read. Assumes nothing.
use Rattle.std.proofs.Common.{◌≡◌, refl, sym, ap, ◌∙◌, List, ℕ, ◌≤◌, length, Err, arith}
use mathlib.Core.Logic.{dite}
use native.Mathlib.Decide.{dec_lt}
use Rattle.links.specs.Links.{count}
use Rattle.links.specs.Faults.{Fault, no_fault, fault, table_fault}
use Rattle.links.specs.Reasons.{number_of}
use Rattle.links.specs.declared.reply.Refusal.{Refusal}
use Rattle.links.proofs.Reasons.{fault≢no_fault, place_of, given_few, fault_first}
use Rattle.linkfile.specs.Files.{file_of}
use Rattle.linkfile.specs.Replies.{Written, Writes, fault_in, write_fault}
use Rattle.linkfile.proofs.WriteLaws.{write_table, write_short, write_fine}
use Rattle.linkfile.proofs.RoundTrip.{file_length}

-- the place of a fault of the writer is no further than the last link
pub written_place : {t bytes bytes' : List ℕ} {g : ℕ} {r : Written} → Writes t g bytes bytes' r → {why : Refusal} → r ≡ Err why → count t ≤ 2048 → why.place ≤ 2048
written_place {t} {bytes} {g = g} {r = r} W {why} e few = of (table_fault t g) refl
  where
    said : write_fault t g (length bytes) ≡ fault (number_of why.reason) why.place
    said = sym W.reply ∙ ap fault_in e

    of : (f : Fault) → table_fault t g ≡ f → why.place ≤ 2048
    of (fault n p) d =
        let is = ap place_of (sym (write_table t g (length bytes) d) ∙ said) in
        omega (arith, is, (given_few (fault_first t g d).given).1)
    of no_fault d = dite (dec_lt (length bytes) (length (file_of t g)))
        (λ l. let is = ap place_of (sym (write_short t g (length bytes) d (omega (arith, file_length t g))) ∙ said) in omega (arith, is))
        (λ l. absurd (fault≢no_fault (sym said ∙ write_fine t g (length bytes) d (omega (arith, file_length t g)))))

-- No second reply fits the reader or the writer: their promises fix the reply and every number of the lent memory, for every input. Assumes nothing.
use Rattle.std.proofs.Common.{◌≡◌, sym, ap, ◌∙◌, List, ℕ, Ok, Err}
use Rattle.links.proofs.Numbered.{refusal_one}
use Rattle.links.proofs.Reasons.{fault≢no_fault, reason_of, place_of}
use Rattle.linkfile.specs.Reading.{Outcome, accepted, refused}
use Rattle.linkfile.specs.Replies.{Read, outcome_of, Reads, Written, fault_in, length_in, Writes}
use Rattle.linkfile.proofs.ReadTold.{refused≢accepted}

-- the two numbers of an outcome
abbrev first_of : Outcome → ℕ
first_of (accepted g n) = g
first_of (refused m p) = m

abbrev second_of : Outcome → ℕ
second_of (accepted g n) = n
second_of (refused m p) = p

-- two replies of the reader with the same outcome are the same reply
outcome_of_one : (a b : Read) → outcome_of a ≡ outcome_of b → a ≡ b
outcome_of_one (Ok c) (Ok d) e = λ i. Ok (record { gauges = first_of (e i); links = second_of (e i) })
outcome_of_one (Ok c) (Err s) e = absurd (refused≢accepted (sym e))
outcome_of_one (Err r) (Ok d) e = absurd (refused≢accepted e)
outcome_of_one (Err r) (Err s) e = ap Err (refusal_one (ap first_of e) (ap second_of e))

-- no second reply fits `read`, and no other numbers
pub read_one : {bytes numbers n₁ n₂ : List ℕ} {a b : Read} → Reads bytes numbers n₁ a → Reads bytes numbers n₂ b → (a ≡ b) × (n₁ ≡ n₂)
read_one {a = a} {b = b} R S = (outcome_of_one a b (R.reply ∙ sym S.reply), R.memory ∙ sym S.memory)

-- two replies of the writer with the same fault and the same length are the same reply
written_of_one : (a b : Written) → fault_in a ≡ fault_in b → length_in a ≡ length_in b → a ≡ b
written_of_one (Ok n) (Ok m) e d = ap Ok d
written_of_one (Ok n) (Err s) e d = absurd (fault≢no_fault (sym e))
written_of_one (Err r) (Ok m) e d = absurd (fault≢no_fault e)
written_of_one (Err r) (Err s) e d = ap Err (refusal_one (ap reason_of e) (ap place_of e))

-- no second reply fits `write`, and no other bytes
pub write_one : {t bytes b₁ b₂ : List ℕ} {g : ℕ} {a b : Written} → Writes t g bytes b₁ a → Writes t g bytes b₂ b → (a ≡ b) × (b₁ ≡ b₂)
write_one {a = a} {b = b} W X = (written_of_one a b (W.reply ∙ sym X.reply) (W.size ∙ sym X.size), W.memory ∙ sym X.memory)

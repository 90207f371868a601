-- No two reasons have one number, and a table is refused for the number of a reason. Assumes nothing.
use Rattle.std.proofs.Common.{List, ◌≡◌, refl, sym, ap, ◌∙◌, [], ◌∷◌, ℕ, ◌≤◌, get_or, arith}
use Rattle.links.specs.Faults.{Given, not_fours, too_many, no_gauge, many_gauges, unknown_one, unknown_other, same_gauge, backward, too_late, shared}
use Rattle.links.specs.Reasons.{number_of}
use Rattle.links.specs.declared.reply.Refusal.{Refusal}
use Rattle.links.specs.declared.reply.Reason.{Reason}
use Rattle.links.specs.declared.reply.Reason.TheVariants.{NotFours, TooManyLinks, NotThatManyGauges, UnknownGauge, SameGauge, EndBeforeBegin, TooLate, SharedHour, TooFewRows, UnknownMember, TooFewMembers, NoSpan, CutOff, WrongKind, WrongLength, WrongCount, BytesBehind, TooFewNumbers, TooFewBytes, TooLargeInput}

-- the reason of a number; where there is none, the first
abbrev pub numbered : ℕ → Reason
numbered n = get_or (NotFours ∷ NotFours ∷ TooManyLinks ∷ NotThatManyGauges ∷ UnknownGauge ∷ SameGauge ∷ EndBeforeBegin ∷ TooLate ∷ SharedHour ∷ TooFewRows ∷ UnknownMember ∷ TooFewMembers ∷ NoSpan ∷ NotFours ∷ NotFours ∷ NotFours ∷ NotFours ∷ NotFours ∷ NotFours ∷ NotFours ∷ CutOff ∷ WrongKind ∷ WrongLength ∷ WrongCount ∷ BytesBehind ∷ TooFewNumbers ∷ TooFewBytes ∷ TooLargeInput ∷ []) n NotFours

-- a reason is that of its number
pub numbered_back : (r : Reason) → numbered (number_of r) ≡ r
numbered_back NotFours = refl
numbered_back TooManyLinks = refl
numbered_back NotThatManyGauges = refl
numbered_back UnknownGauge = refl
numbered_back SameGauge = refl
numbered_back EndBeforeBegin = refl
numbered_back TooLate = refl
numbered_back SharedHour = refl
numbered_back TooFewRows = refl
numbered_back UnknownMember = refl
numbered_back TooFewMembers = refl
numbered_back NoSpan = refl
numbered_back CutOff = refl
numbered_back WrongKind = refl
numbered_back WrongLength = refl
numbered_back WrongCount = refl
numbered_back BytesBehind = refl
numbered_back TooFewNumbers = refl
numbered_back TooFewBytes = refl
numbered_back TooLargeInput = refl

-- two reasons with one number are one
pub reason_one : (r s : Reason) → number_of r ≡ number_of s → r ≡ s
reason_one r s e = sym (numbered_back r) ∙ ap numbered e ∙ numbered_back s

-- two refusals with the same number and place are one
pub refusal_one : {r s : Refusal} → number_of r.reason ≡ number_of s.reason → r.place ≡ s.place → r ≡ s
refusal_one {r} {s} e p = let same : r.reason ≡ s.reason = reason_one r.reason s.reason e in λ i. record { reason = same i; place = p i }

-- no reason has the number 0
pub number_some : (r : Reason) → 1 ≤ number_of r
number_some NotFours = omega arith
number_some TooManyLinks = omega arith
number_some NotThatManyGauges = omega arith
number_some UnknownGauge = omega arith
number_some SameGauge = omega arith
number_some EndBeforeBegin = omega arith
number_some TooLate = omega arith
number_some SharedHour = omega arith
number_some TooFewRows = omega arith
number_some UnknownMember = omega arith
number_some TooFewMembers = omega arith
number_some NoSpan = omega arith
number_some CutOff = omega arith
number_some WrongKind = omega arith
number_some WrongLength = omega arith
number_some WrongCount = omega arith
number_some BytesBehind = omega arith
number_some TooFewNumbers = omega arith
number_some TooFewBytes = omega arith
number_some TooLargeInput = omega arith

-- a number that a reason has
abbrev pub IsNumber : ℕ → Type 0
IsNumber n = number_of (numbered n) ≡ n

-- and no such number is 0
pub number_least : {n : ℕ} → IsNumber n → 1 ≤ n
number_least {n} k = omega (arith, number_some (numbered n), k)

-- a reason to refuse a table has a number that one of them has
pub given_number : {t : List ℕ} {g n p : ℕ} → Given t g n p → IsNumber n
given_number (not_fours f) = refl
given_number (too_many h) = refl
given_number (no_gauge h) = refl
given_number (many_gauges h) = refl
given_number (unknown_one l h) = refl
given_number (unknown_other l h) = refl
given_number (same_gauge l h) = refl
given_number (backward l h) = refl
given_number (too_late l h) = refl
given_number (shared l h c) = refl

-- The five numbers of a reply: the reason of a refusal, its place, the answer, and the two values that an answer may carry.
-- The reason is 0 where the call isn't refused; what a reply doesn't carry is 0. Assumes nothing: these are definitions.
use Rattle.std.specs.Prelude.{List, [], ◌∷◌, ℕ, get_or, Option, Some, None, Ok, Err}
use Rattle.links.specs.Reasons.{number_of}
use Rattle.links.specs.Replies.{Check}
use Rattle.links.specs.declared.reply.Refusal.{Refusal}
use Rattle.groups.specs.Replies.{Listed}
use Rattle.question.specs.Answers.{Answer}
use Rattle.question.specs.declared.reply.Verdict.{Verdict}
use Rattle.question.specs.declared.reply.Verdict.TheVariants.{Missing, Earlier, Later, Further, Group}
use Rattle.linkfile.specs.Replies.{Read, Written}

-- which number is which
abbrev pub reason_in : List ℕ → ℕ
reason_in reply = get_or reply 0 0

abbrev pub answer_in : List ℕ → ℕ
answer_in reply = get_or reply 2 0

abbrev pub first_in : List ℕ → ℕ
first_in reply = get_or reply 3 0

-- a refusal: the number of its reason, and its place
abbrev pub refusal_numbers : Refusal → List ℕ
refusal_numbers r = number_of r.reason ∷ r.place ∷ 0 ∷ 0 ∷ 0 ∷ []

-- an answer, with its values
abbrev pub answer_numbers : (answer first second : ℕ) → List ℕ
answer_numbers answer first second = 0 ∷ 0 ∷ answer ∷ first ∷ second ∷ []

-- the check: nothing more than that the table is accepted
abbrev pub check_numbers : Check → List ℕ
check_numbers (Ok u) = answer_numbers 0 0 0
check_numbers (Err r) = refusal_numbers r

-- the list: how many groups
abbrev pub list_numbers : Listed → List ℕ
list_numbers (Ok k) = answer_numbers k 0 0
list_numbers (Err r) = refusal_numbers r

-- a verdict: its number in document 01, and its cause
abbrev pub verdict_numbers : Verdict → List ℕ
verdict_numbers (Missing u v) = answer_numbers 1 u v
verdict_numbers (Earlier b) = answer_numbers 2 b 0
verdict_numbers (Later e) = answer_numbers 3 e 0
verdict_numbers (Further k) = answer_numbers 4 k 0
verdict_numbers Group = answer_numbers 5 0 0

-- the question: the verdict
abbrev pub ask_numbers : Answer → List ℕ
ask_numbers (Ok v) = verdict_numbers v
ask_numbers (Err r) = refusal_numbers r

-- the reader: the count of links, then the gauge count
abbrev pub read_numbers : Read → List ℕ
read_numbers (Ok c) = answer_numbers c.links c.gauges 0
read_numbers (Err r) = refusal_numbers r

-- the writer: the length of the file
abbrev pub write_numbers : Written → List ℕ
write_numbers (Ok n) = answer_numbers n 0 0
write_numbers (Err r) = refusal_numbers r

-- the listing: the length of its text, which has a line at least; or 0, where the lent bytes are too few for it
abbrev pub listing_numbers : Option ℕ → List ℕ
listing_numbers (Some n) = answer_numbers n 0 0
listing_numbers None = answer_numbers 0 0 0

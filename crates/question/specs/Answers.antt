-- The answers in document 01's numbers and values, and which one is right. Assumes nothing: these are definitions.
use Rattle.std.specs.Prelude.{◌≡◌, List, [], ◌∷◌, ◌++◌, ℕ, codes, decimal, Result, Ok, Err}
use Rattle.links.specs.Reasons as Reasons
use Rattle.links.specs.declared.reply.Refusal.{Refusal}
use Rattle.links.specs.Faults.{no_fault, fault}
use Rattle.question.specs.Refusals.{question_fault}
use Rattle.question.specs.Verdicts.{FirstVerdict}
use Rattle.question.specs.declared.reply.Verdict.{Verdict}
use Rattle.question.specs.declared.reply.Verdict.TheVariants.{Missing, Earlier, Later, Further, Group}

-- the number of a verdict
abbrev pub number_of : Verdict → ℕ
number_of (Missing u v) = 1
number_of (Earlier b) = 2
number_of (Later e) = 3
number_of (Further k) = 4
number_of Group = 5

-- what it carries
abbrev pub values_of : Verdict → List ℕ
values_of (Missing u v) = u ∷ v ∷ []
values_of (Earlier b) = b ∷ []
values_of (Later e) = e ∷ []
values_of (Further k) = k ∷ []
values_of Group = []

-- the verdict in words
abbrev pub verdict_text : Verdict → List ℕ
verdict_text (Missing u v) = codes "lacks pair " ++ (decimal u ++ (codes ", " ++ decimal v))
verdict_text (Earlier b) = codes "can begin at " ++ decimal b
verdict_text (Later e) = codes "can end at " ++ decimal e
verdict_text (Further k) = codes "gauge " ++ (decimal k ++ codes " fits")
verdict_text Group = codes "a group"

-- what an answer says: a refusal's number and place, or a verdict's number and values
pub data Said : Type 0 where
  refused : (reason place : ℕ) → Said
  verdict : (number : ℕ) (values : List ℕ) → Said

-- the answer
abbrev pub Answer : Type 0
Answer = Result Verdict Refusal

abbrev pub said_of : Answer → Said
said_of (Err r) = refused (Reasons.number_of r.reason) r.place
said_of (Ok v) = verdict (number_of v) (values_of v)

-- What is right to say of members m over the span [x, y]: the first reason for refusal, or, where there is none, the first verdict that holds.
abbrev pub Right : List ℕ → ℕ → ℕ → ℕ → ℕ → Said → Type 0
Right t g m x y (refused n p) = question_fault t g m x y ≡ fault n p
Right t g m x y (verdict n values) = (question_fault t g m x y ≡ no_fault) × FirstVerdict t g m x y n values

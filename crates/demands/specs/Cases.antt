-- The cases P1 to P10 of document 01 as one table. Assumes nothing: these are definitions.
use Rattle.std.specs.Prelude.{◌≡◌, List, [], ◌∷◌, ◌++◌, ℕ, length, take}
use Rattle.cliques.specs.Buffers.{whole_rows}
use Rattle.groups.specs.Replies.{Listed, Listing, groups, refusal, outcome_of}
use Rattle.question.specs.Answers.{Answer, Said, verdict, said_of, Right}

-- a table, its gauge count, how many whole rows are lent, and what is expected: rows, three numbers each, or a reason and its place;
-- or a question about members and a span of a table, and what is to be said of it
pub data Case : Type 0 where
  rows : (table : List ℕ) (gauges room : ℕ) (list : List ℕ) → Case
  refused : (table : List ℕ) (gauges room reason place : ℕ) → Case
  asked : (table : List ℕ) (gauges members begin end : ℕ) (said : Said) → Case

-- what a case says of every reply that keeps the promise of the list: the rows are the list, and the reply their number; or the reply is that refusal;
-- and of every answer that keeps the promise of the question: it says so
abbrev pub Says : Case → Type 0
Says (rows t g room l) = (before after : List ℕ) (r : Listed) → whole_rows before ≡ room → Listing t g before r after
    → (outcome_of r ≡ groups (whole_rows l)) × (take (length l) after ≡ l)
Says (refused t g room n p) = (before after : List ℕ) (r : Listed) → whole_rows before ≡ room → Listing t g before r after → outcome_of r ≡ refusal n p
Says (asked t g m x y s) = (a : Answer) → Right t g m x y (said_of a) → said_of a ≡ s

-- T of document 01
abbrev pub T : List ℕ
T = 1 ∷ 9 ∷ 0 ∷ 1 ∷ 3 ∷ 12 ∷ 1 ∷ 2 ∷ 5 ∷ 14 ∷ 0 ∷ 2 ∷ 7 ∷ 20 ∷ 2 ∷ 3 ∷ 10 ∷ 18 ∷ 1 ∷ 3 ∷ []

-- P1 to P10, in document 01's order
abbrev pub cases : List Case
cases =
    rows [] 4 9 []
    ∷ rows (4 ∷ 4 ∷ 0 ∷ 1 ∷ []) 4 9 (4 ∷ 4 ∷ 3 ∷ [])
    ∷ rows T 4 9 (1 ∷ 9 ∷ 3 ∷ 3 ∷ 12 ∷ 6 ∷ 5 ∷ 9 ∷ 7 ∷ 5 ∷ 14 ∷ 5 ∷ 7 ∷ 20 ∷ 12 ∷ 10 ∷ 12 ∷ 14 ∷ 10 ∷ 18 ∷ 10 ∷ [])
    ∷ refused T 4 6 9 0
    ∷ rows (T ++ 5 ∷ 9 ∷ 0 ∷ 3 ∷ []) 4 9
    (1 ∷ 9 ∷ 3 ∷ 3 ∷ 12 ∷ 6 ∷ 5 ∷ 9 ∷ 7 ∷ 5 ∷ 9 ∷ 9 ∷ 5 ∷ 14 ∷ 5 ∷ 7 ∷ 9 ∷ 13 ∷ 7 ∷ 20 ∷ 12 ∷ 10 ∷ 12 ∷ 14 ∷ 10 ∷ 18 ∷ 10 ∷ [])
    ∷ rows (0 ∷ 5 ∷ 0 ∷ 1 ∷ 0 ∷ 5 ∷ 1 ∷ 2 ∷ []) 4 9 (0 ∷ 5 ∷ 3 ∷ 0 ∷ 5 ∷ 6 ∷ [])
    ∷ rows (0 ∷ 5 ∷ 0 ∷ 1 ∷ 0 ∷ 5 ∷ 1 ∷ 2 ∷ 0 ∷ 5 ∷ 0 ∷ 2 ∷ []) 4 9 (0 ∷ 5 ∷ 7 ∷ [])
    ∷ refused (0 ∷ 5 ∷ 0 ∷ 1 ∷ 5 ∷ 9 ∷ 1 ∷ 0 ∷ []) 4 9 8 1
    ∷ rows (0 ∷ 5 ∷ 0 ∷ 1 ∷ 6 ∷ 9 ∷ 0 ∷ 1 ∷ []) 4 9 (0 ∷ 5 ∷ 3 ∷ 6 ∷ 9 ∷ 3 ∷ [])
    ∷ rows (0 ∷ 1 ∷ 0 ∷ 63 ∷ []) 64 9 (0 ∷ 1 ∷ 9223372036854775809 ∷ [])
    ∷ refused (0 ∷ 1 ∷ 0 ∷ 63 ∷ []) 63 9 4 0
    ∷ asked T 4 3 5 9 (verdict 2 (1 ∷ []))
    ∷ asked T 4 5 5 9 (verdict 3 (14 ∷ []))
    ∷ asked T 4 3 6 12 (verdict 1 (0 ∷ 1 ∷ []))
    ∷ []

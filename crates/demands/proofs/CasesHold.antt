-- P1 to P10 of document 01: one test that is computed over the whole table of cases, and one theorem that turns it into what each case says. Assumes nothing.
use mathlib.Core.Bool.{Bool, true, false, ◌&&◌, ◌||◌, true≢false}
use mathlib.Core.Logic.{◌⊎◌, inl, inr, ⊎_elim}
use mathlib.Core.Path.{◌≡◌, refl, sym, ap, ◌∙◌}
use mathlib.Core.List.Memᴰ
use mathlib.Core.List.{List, [], ◌∷◌, Memᴰ}
use Prim.Native.Nat.{ℕ, ◌*◌, ◌/◌, ◌≤◌, ◌<◌}
use native.Mathlib.Omega.{arith}
use lib.Count.{ones}
use lib.Dec.{eqb, leb, ltb}
use lib.ListN.{length, take}
use lib.Seq.{take_all}
use Rattle.gauges.proofs.Flags.{tells_eq, tells_le, tells_lt}
use Rattle.links.specs.Faults.{Fault, no_fault, fault, head_fault, table_fault, links_fault, clash_below}
use Rattle.links.proofs.Reasons.{no_fault_accepted}
use Rattle.groups.specs.Replies.{groups, refusal}
use Rattle.cliques.proofs.Flat.{flat, length_flat, flat_listed}
use Rattle.cliques.proofs.Tables.{table_rows, table_complete}
use Rattle.question.specs.Answers as Question
use Rattle.question.specs.Answers.{Said, verdict, said_of}
use Rattle.question.proofs.OneReply.{right_one}
use Rattle.question.proofs.Reference.{right_said}
use Rattle.demands.specs.Cases.{Case, rows, refused, asked, Says, cases}
use Rattle.demands.proofs.Demand2.{given_room, no_room, given_fault}

-- ---- tests that tell

parts : {p q : Bool} → (p && q) ≡ true → (p ≡ true) × (q ≡ true)
parts {p = true} {q = true} s = (refl, refl)
parts {p = true} {q = false} s = absurd (true≢false (sym s))
parts {p = false} s = absurd (true≢false (sym s))

-- whether two lists of numbers are the same
abbrev same : List ℕ → List ℕ → Bool
same [] [] = true
same [] (b ∷ m) = false
same (a ∷ l) [] = false
same (a ∷ l) (b ∷ m) = eqb a b && same l m

same_eq : (l m : List ℕ) → same l m ≡ true → l ≡ m
same_eq [] [] e = refl
same_eq [] (b ∷ m) e = absurd (true≢false (sym e))
same_eq (a ∷ l) [] e = absurd (true≢false (sym e))
same_eq (a ∷ l) (b ∷ m) e = let w = parts {p = eqb a b} e in λ i. (tells_eq a b).holds w.0 i ∷ same_eq l m w.1 i

-- whether a table has no fault, and whether its fault is a certain one
abbrev clean : Fault → Bool
clean no_fault = true
clean (fault n p) = false

abbrev is_fault : Fault → ℕ → ℕ → Bool
is_fault no_fault n p = false
is_fault (fault m q) n p = eqb m n && eqb q p

-- whether two things said are the same
abbrev same_said : Said → Said → Bool
same_said (Question.refused n p) (Question.refused m q) = eqb n m && eqb p q
same_said (Question.refused n p) (verdict m ws) = false
same_said (verdict n vs) (Question.refused m q) = false
same_said (verdict n vs) (verdict m ws) = eqb n m && same vs ws

-- the test of a case
unfoldable pub passes : Case → Bool
unfolding table_fault head_fault links_fault clash_below table_rows ones right_said
passes (rows t g room l) = clean (table_fault t g) && same (flat (table_rows t g)) l && leb (length (table_rows t g)) room && eqb (length (table_rows t g)) (length l / 3)
passes (refused t g room n p) = is_fault (table_fault t g) n p || (clean (table_fault t g) && eqb n 9 && eqb p 0 && ltb room (length (table_rows t g)))
passes (asked t g m x y s) = same_said (right_said t g m x y).0 s

-- ---- from the test to the case

either : {p q : Bool} → (p || q) ≡ true → (p ≡ true) ⊎ (q ≡ true)
either {p = true} s = inl refl
either {p = false} s = inr s

clean_none : (f : Fault) → clean f ≡ true → f ≡ no_fault
clean_none no_fault e = refl
clean_none (fault n p) e = absurd (true≢false (sym e))

is_fault_eq : (f : Fault) (n p : ℕ) → is_fault f n p ≡ true → f ≡ fault n p
is_fault_eq no_fault n p e = absurd (true≢false (sym e))
is_fault_eq (fault m q) n p e = let w = parts e in λ i. fault ((tells_eq m n).holds w.0 i) ((tells_eq q p).holds w.1 i)

same_said_eq : (s s' : Said) → same_said s s' ≡ true → s ≡ s'
same_said_eq (Question.refused n p) (Question.refused m q) e = let w = parts e in λ i. Question.refused ((tells_eq n m).holds w.0 i) ((tells_eq p q).holds w.1 i)
same_said_eq (Question.refused n p) (verdict m ws) e = absurd (true≢false (sym e))
same_said_eq (verdict n vs) (Question.refused m q) e = absurd (true≢false (sym e))
same_said_eq (verdict n vs) (verdict m ws) e = let w = parts {p = eqb n m} e in λ i. verdict ((tells_eq n m).holds w.0 i) (same_eq vs ws w.1 i)

-- a case that passes says what is so
pub passes_says : (c : Case) → passes c ≡ true → Says c
unfolding passes
passes_says (rows t g room l) e = λ before after r s L.
    let u = parts e in
    let v = parts u.0 in
    let w = parts v.0 in
    let is : flat (table_rows t g) ≡ l = same_eq (flat (table_rows t g)) l w.1 in
    let k : length (table_rows t g) ≡ length l / 3 = (tells_eq (length (table_rows t g)) (length l / 3)).holds u.1 in
    let fits : length (table_rows t g) ≤ room = (tells_le (length (table_rows t g)) room).holds v.1 in
    let size : length l ≡ 3 * length (table_rows t g) = sym (ap length is) ∙ length_flat (table_rows t g) in
    let rs = table_rows t g in
    let o = given_room (no_fault_accepted t g (clean_none (table_fault t g) w.0)) (flat rs) (omega (arith, length_flat rs)) (flat_listed rs (table_complete t g)) (omega arith) L in
    (o.0 ∙ ap groups k, ap (λ (n : ℕ). take n after) size ∙ o.1 ∙ take_all (3 * length (table_rows t g)) (flat (table_rows t g)) (omega (arith, length_flat (table_rows t g))) ∙ is)
passes_says (refused t g room n p) e = λ before after r s L. ⊎_elim
    (λ f. given_fault (is_fault_eq (table_fault t g) n p f) L)
    (λ f.
    let u = parts f in
    let v = parts u.0 in
    let w = parts v.0 in
    let more : room < length (table_rows t g) = (tells_lt room (length (table_rows t g))).holds u.1 in
    no_room (no_fault_accepted t g (clean_none (table_fault t g) w.0)) (table_complete t g) (omega arith) L
    ∙ (λ i. refusal (sym ((tells_eq n 9).holds w.1) i) (sym ((tells_eq p 0).holds v.1) i)))
    (either e)
passes_says (asked t g m x y s) e = λ a r.
    let w = right_said t g m x y in
    right_one t g m x y (said_of a) w.0 r w.1 ∙ same_said_eq w.0 s e

-- every case of the table passes
unfoldable pub all_pass : List Case → Bool
all_pass [] = true
all_pass (c ∷ l) = passes c && all_pass l

computed : all_pass cases ≡ true
unfolding passes all_pass
computed = refl

-- Every case of the table says what is so: P1 to P10 of document 01, for every buffer, and every reply that keeps the promise of the list or of the question.
pub each_case : (l : List Case) → all_pass l ≡ true → (c : Case) → Memᴰ c l → Says c
unfolding all_pass
each_case [] e c m = absurd (Memᴰ.not-nil m)
each_case (d ∷ l) e c m = ⊎_elim (λ s. passes_says c (ap passes s ∙ (parts {p = passes d} e).0)) (each_case l (parts {p = passes d} e).1 c) (Memᴰ.cases_cons m)

pub document_cases : (c : Case) → Memᴰ c cases → Says c
document_cases = each_case cases computed

-- The line of a refusal tells its reason and its place, and is never the text of a list. Assumes nothing.
use mathlib.Core.Bool.{Bool, true, false}
use mathlib.Core.Logic.{dite}
use mathlib.Core.List.{List, [], ◌∷◌, ◌++◌, append_assoc}
use mathlib.Core.Path.{◌≡◌, sym, ap, ◌∙◌}
use Prim.Native.Nat.{ℕ, zero, suc, ◌+◌, ◌*◌, ◌-◌, ◌/◌, ◌%◌, ◌<◌}
use native.Mathlib.Decide.{dec_lt}
use native.Mathlib.Omega.{arith}
use borrow.Author.Tests.{lt-ltb, le-ltb}
use lib.Dec.{ltb}
use lib.ListN.{get_or, drop}
use Rattle.lines.specs.Text.{by_test, decimal, header_of, refusal_of, lines_of}
use Rattle.lines.proofs.Decimals.{decimal_small, decimal_more}

-- ---- the number that a text begins with

abbrev either : Bool → ℕ → ℕ → ℕ
either true a b = a
either false a b = b

-- the number of the leading digits, behind digits of the value v
unfoldable value : ℕ → List ℕ → ℕ
value v [] = v
value v (b ∷ l) = either (ltb b 48) v (value (10 * v + (b - 48)) l)

-- the text behind them
unfoldable behind : List ℕ → List ℕ
behind [] = []
behind (b ∷ l) = by_test (ltb b 48) (b ∷ l) (behind l)

-- a digit is read,
value_digit : (v d : ℕ) (t : List ℕ) → value v ((48 + d) ∷ t) ≡ value (10 * v + d) t
unfolding value
value_digit v d t =
    let e : 48 + d - 48 ≡ d = omega arith in
    rw (le-ltb (48 + d) 48 (omega arith), e)

behind_digit : (d : ℕ) (t : List ℕ) → behind ((48 + d) ∷ t) ≡ behind t
unfolding behind
behind_digit d t = rw (le-ltb (48 + d) 48 (omega arith))

-- and a byte below "0" ends the number
value_end : (v b : ℕ) (t : List ℕ) → b < 48 → value v (b ∷ t) ≡ v
unfolding value
value_end v b t h = rw (lt-ltb b 48 h)

behind_end : (b : ℕ) (t : List ℕ) → b < 48 → behind (b ∷ t) ≡ b ∷ t
unfolding behind
behind_end b t h = rw (lt-ltb b 48 h)

-- a number in decimal is read as itself, whatever follows it
value_decimal : (f n : ℕ) → n < f → (t : List ℕ) → value 0 (decimal n ++ t) ≡ value n t
value_decimal zero n h t = absurd (omega arith)
value_decimal (suc f) n h t =
    dite (dec_lt n 10)
    (λ l. ap (λ (s : List ℕ). value 0 (s ++ t)) (decimal_small n l) ∙ value_digit 0 n t ∙ ap (λ (k : ℕ). value k t) (omega arith))
    (λ l.
    let d = n % 10 in
    ap (λ (s : List ℕ). value 0 (s ++ t)) (decimal_more n (omega arith)) ∙ ap (value 0) (append_assoc (decimal (n / 10)) ((48 + d) ∷ []) t)
    ∙ value_decimal f (n / 10) (omega arith) ((48 + d) ∷ t) ∙ value_digit (n / 10) d t ∙ ap (λ (k : ℕ). value k t) (omega arith))

behind_decimal : (f n : ℕ) → n < f → (t : List ℕ) → behind (decimal n ++ t) ≡ behind t
behind_decimal zero n h t = absurd (omega arith)
behind_decimal (suc f) n h t =
    dite (dec_lt n 10)
    (λ l. ap (λ (s : List ℕ). behind (s ++ t)) (decimal_small n l) ∙ behind_digit n t)
    (λ l.
    let d = n % 10 in
    ap (λ (s : List ℕ). behind (s ++ t)) (decimal_more n (omega arith)) ∙ ap behind (append_assoc (decimal (n / 10)) ((48 + d) ∷ []) t)
    ∙ behind_decimal f (n / 10) (omega arith) ((48 + d) ∷ t) ∙ behind_digit d t)

-- ---- the line of a refusal

-- behind its word, the line is the reason, a space, the place and the end of the line
behind_word : (n p : ℕ) → drop 8 (refusal_of n p) ≡ decimal n ++ (32 ∷ (decimal p ++ (10 ∷ [])))
unfolding refusal_of
behind_word n p = append_assoc (decimal n ++ (32 ∷ [])) (decimal p) (10 ∷ []) ∙ append_assoc (decimal n) (32 ∷ []) (decimal p ++ (10 ∷ []))

-- the reason and the place that a line tells
reason_told : List ℕ → ℕ
reason_told line = value 0 (drop 8 line)

place_told : List ℕ → ℕ
place_told line = value 0 (drop 1 (behind (drop 8 line)))

reason_told_lem : (n p : ℕ) → reason_told (refusal_of n p) ≡ n
unfolding reason_told
reason_told_lem n p =
    ap (value 0) (behind_word n p) ∙ value_decimal (suc n) n (omega arith) (32 ∷ (decimal p ++ (10 ∷ []))) ∙ value_end n 32 (decimal p ++ (10 ∷ [])) (omega arith)

place_told_lem : (n p : ℕ) → place_told (refusal_of n p) ≡ p
unfolding place_told
place_told_lem n p =
    let place = decimal p ++ (10 ∷ []) in
    ap (λ (s : List ℕ). value 0 (drop 1 s)) (ap behind (behind_word n p) ∙ behind_decimal (suc n) n (omega arith) (32 ∷ place) ∙ behind_end 32 place (omega arith))
    ∙ value_decimal (suc p) p (omega arith) (10 ∷ []) ∙ value_end p 10 [] (omega arith)

-- two refusals with the same line are the same,
pub refusal_same : (n p m q : ℕ) → refusal_of n p ≡ refusal_of m q → (n ≡ m) × (p ≡ q)
refusal_same n p m q e =
    (sym (reason_told_lem n p) ∙ ap reason_told e ∙ reason_told_lem m q, sym (place_told_lem n p) ∙ ap place_told e ∙ place_told_lem m q)

-- and the text of a list, which begins with another letter, is no refusal's
pub list_no_refusal : (rows : List ℕ) (k n p : ℕ) → lines_of rows k ≡ refusal_of n p → ⊥
unfolding header_of refusal_of
list_no_refusal rows k n p e = omega (arith, ap (λ (t : List ℕ). get_or t 0 0) e)

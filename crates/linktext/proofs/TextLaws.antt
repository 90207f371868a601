-- Reading a text byte by byte. Assumes nothing.
use Rattle.std.proofs.Common.{◌≡◌, refl, sym, ap, ◌∙◌, Bool, true, false, cond, List, [], ◌∷◌, ℕ, suc, ◌+◌, ◌*◌, ◌-◌, ◌≤◌, ◌<◌, ◌⊎◌, inl, inr, length, get_or, take, drop, arith}
use borrow.Author.Tests.{lt-ltb, le-ltb}
use Rattle.std.specs.List.{prefix_len}
use Rattle.std.proofs.lemmas.List.{take_all, length-drop}
use Rattle.linktext.specs.Texts.{choose, is_digit, is_space, behind_spaces, figure, no_figure, digits_from}

-- ---- spaces

behind_prefix : (text : List ℕ) → drop (prefix_len is_space text) text ≡ behind_spaces text
unfolding behind_spaces
behind_prefix [] = refl
behind_prefix (b ∷ text) = of (is_space b) (behind_prefix text)
  where
    of : (p : Bool) → drop (prefix_len is_space text) text ≡ behind_spaces text → drop (cond p (1 + prefix_len is_space text) 0) (b ∷ text) ≡ choose p (behind_spaces text) (b ∷ text)
    of true e = let one : 1 + prefix_len is_space text ≡ suc (prefix_len is_space text) = omega arith in ap (λ (n : ℕ). drop n (b ∷ text)) one ∙ e
    of false e = refl

-- behind as many bytes as there are spaces the text is what follows them
pub behind : (text : List ℕ) {n : ℕ} → n ≡ prefix_len is_space text → take (length text - n) (drop n text) ≡ behind_spaces text
behind text {n} e = take_all (length text - n) (drop n text) (omega (arith, length-drop n text)) ∙ ap (λ (k : ℕ). drop k text) e ∙ behind_prefix text

-- ---- digits

digit_yes : (b : ℕ) → (48 ≤ b) × (b ≤ 57) → is_digit b ≡ true
digit_yes b h = rw (lt-ltb 47 b (omega arith), lt-ltb b 58 (omega arith))

digit_no : (b : ℕ) → (b < 48) ⊎ (57 < b) → is_digit b ≡ false
digit_no b (inl h) = rw (le-ltb 47 b (omega arith))
digit_no b (inr h) = rw (lt-ltb 47 b (omega arith), le-ltb b 58 (omega arith))

-- the number goes on with a digit
pub more_digits : (v : ℕ) (rest : List ℕ) (m : ℕ) {w : ℕ} → 0 < length rest → length rest ≤ m + 1 → (48 ≤ get_or rest 0 0) × (get_or rest 0 0 ≤ 57)
    → w ≡ v * 10 + (get_or rest 0 0 - 48) → w ≤ 4294967295 → digits_from w (take m (drop 1 rest)) ≡ digits_from v rest
unfolding digits_from
more_digits v [] m i s h e k = absurd (omega arith)
more_digits v (b ∷ rest) m {w} i s h e k =
    let small : v * 10 + (b - 48) ≤ 4294967295 = omega arith in
    (λ p. digits_from (e p) (take_all m rest (omega arith) p)) ∙ sym (rw (digit_yes b h, le-ltb 4294967295 (v * 10 + (b - 48)) small) refl)

-- or is too large with it
pub large_digits : (v : ℕ) (rest : List ℕ) → 0 < length rest → (48 ≤ get_or rest 0 0) × (get_or rest 0 0 ≤ 57) → 4294967295 < v * 10 + (get_or rest 0 0 - 48)
    → digits_from v rest ≡ no_figure 93
unfolding digits_from
large_digits v [] i h k = absurd (omega arith)
large_digits v (b ∷ rest) i h k = rw (digit_yes b h, lt-ltb 4294967295 (v * 10 + (b - 48)) k)

-- or ends before another byte, or at the end of the text
pub last_digits : (v : ℕ) (rest : List ℕ) → (0 < length rest → (get_or rest 0 0 < 48) ⊎ (57 < get_or rest 0 0)) → digits_from v rest ≡ figure v rest
unfolding digits_from
last_digits v [] d = refl
last_digits v (b ∷ rest) d = rw (digit_no b (d (omega arith)))

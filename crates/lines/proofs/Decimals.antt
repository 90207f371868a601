-- Numbers in decimal: the digits one by one, from the last to the first, and how many there are. Assumes nothing.
use mathlib.Core.Logic.{dite}
use mathlib.Core.List.{List, [], ◌∷◌, ◌++◌, append_assoc, append-nil}
use mathlib.Core.Path.{◌≡◌, refl, sym, ap, subst, ◌∙◌}
use Prim.Native.Nat.{ℕ, zero, suc, ◌+◌, ◌*◌, ◌/◌, ◌%◌, ◌^◌, ◌≤◌, ◌<◌}
use native.Mathlib.Nat.{pow-suc, lt_of_lt_of_le}
use native.Mathlib.Decide.{dec_lt}
use native.Mathlib.Omega.{arith}
use borrow.Author.Tests.{lt-ltb, le-ltb}
use lib.Dec.{ltb, lit≤}
use lib.ListN.{length, set, length-append}
use Rattle.std.specs.Prelude.{Option, Some, None, IfNone, IfSome}
use Rattle.std.specs.Option.{unwrap_or}
use Rattle.lines.specs.Text.{digits, decimal}
use Rattle.lines.specs.Replies.{Placed}
use Rattle.lines.proofs.Placing.{placed_none, placed_byte, placed_before}

-- ---- the two equations of decimal

digits_small : (f n : ℕ) → n < 10 → digits (suc f) (ltb n 10) n ≡ (48 + n) ∷ []
unfolding digits
digits_small f n h = rw (lt-ltb n 10 h)

digits_more : (f n : ℕ) → 10 ≤ n → digits (suc f) (ltb n 10) n ≡ digits f (ltb (n / 10) 10) (n / 10) ++ ((48 + n % 10) ∷ [])
unfolding digits
digits_more f n h = rw (le-ltb n 10 h)

-- the fuel is no matter, if it is above the number
digits_fuel : (f g n : ℕ) → n < f → n < g → digits f (ltb n 10) n ≡ digits g (ltb n 10) n
digits_fuel zero g n h k = absurd (omega arith)
digits_fuel (suc f) zero n h k = absurd (omega arith)
digits_fuel (suc f) (suc g) n h k =
    dite (dec_lt n 10)
    (λ l. digits_small f n l ∙ sym (digits_small g n l))
    (λ l.
    digits_more f n (omega arith) ∙ ap (λ (t : List ℕ). t ++ ((48 + n % 10) ∷ [])) (digits_fuel f g (n / 10) (omega arith) (omega arith))
    ∙ sym (digits_more g n (omega arith)))

pub decimal_small : (n : ℕ) → n < 10 → decimal n ≡ (48 + n) ∷ []
unfolding decimal
decimal_small n h = digits_small n n h

pub decimal_more : (n : ℕ) → 10 ≤ n → decimal n ≡ decimal (n / 10) ++ ((48 + n % 10) ∷ [])
unfolding decimal
decimal_more n h =
    digits_more n n h ∙ ap (λ (t : List ℕ). t ++ ((48 + n % 10) ∷ [])) (digits_fuel n (suc (n / 10)) (n / 10) (omega arith) (omega arith))

-- ---- how many digits there are

pub length_small : (n : ℕ) → n < 10 → length (decimal n) ≡ 1
length_small n h = ap length (decimal_small n h)

pub length_more : (n : ℕ) → 10 ≤ n → length (decimal n) ≡ length (decimal (n / 10)) + 1
length_more n h = ap length (decimal_more n h) ∙ length-append (decimal (n / 10)) ((48 + n % 10) ∷ [])

pub length_pos : (n : ℕ) → 1 ≤ length (decimal n)
length_pos n = dite (dec_lt n 10) (λ h. omega (arith, length_small n h)) (λ h. omega (arith, length_more n (omega arith)))

-- a number below a power of ten has at most that many digits
pub length_most : (k n : ℕ) → n < 10 ^ suc k → length (decimal n) ≤ suc k
length_most zero n h = omega (arith, length_small n h)
length_most (suc k) n h =
    dite (dec_lt n 10)
    (λ l. omega (arith, length_small n l))
    (λ l. omega (arith, length_more n (omega arith), length_most k (n / 10) (omega (arith, pow-suc 10 (suc k)))))

pub length_u64 : (n : ℕ) → n < 2 ^ 64 → length (decimal n) ≤ 20
length_u64 n h = length_most 19 n (lt_of_lt_of_le h (lit≤ tt))

-- a number from a power of ten on has more digits than that
pub length_least : (k n : ℕ) → 10 ^ k ≤ n → suc k ≤ length (decimal n)
length_least zero n h = length_pos n
length_least (suc k) n h =
    let step = pow-suc 10 k in
    let some : 1 ≤ 10 ^ k = pow_pos k in
    omega (arith, length_more n (omega arith), length_least k (n / 10) (omega arith))
  where
    pow_pos : (j : ℕ) → 1 ≤ 10 ^ j
    pow_pos zero = omega arith
    pow_pos (suc j) = omega (arith, pow-suc 10 j, pow_pos j)

pub length_log : (n : ℕ) (k : Option ℕ) → IfNone k (n ≡ 0) → IfSome k (λ j. 10 ^ j ≤ n) → IfSome k (λ j. n < 10 * 10 ^ j) → length (decimal n) ≡ unwrap_or k 0 + 1
length_log n None none least most = omega (arith, length_small n (omega (arith, none)))
length_log n (Some j) none least most = omega (arith, length_least j n least, length_most j n (omega (arith, most, pow-suc 10 j)))

-- ---- from the last digit to the first

-- the last k digits of n, or zeros before them
abbrev low : ℕ → ℕ → List ℕ
low zero n = []
low (suc k) n = low k (n / 10) ++ ((48 + n % 10) ∷ [])

-- as many as n has are all of them
low_all : (f n : ℕ) → n < f → low (length (decimal n)) n ≡ decimal n
low_all zero n h = absurd (omega arith)
low_all (suc f) n h =
    dite (dec_lt n 10)
    (λ l. ap (λ (k : ℕ). low k n) (length_small n l) ∙ ap (λ (d : ℕ). (48 + d) ∷ []) (omega arith) ∙ sym (decimal_small n l))
    (λ l.
    let more : length (decimal n) ≡ suc (length (decimal (n / 10))) = omega (arith, length_more n (omega arith)) in
    ap (λ (k : ℕ). low k n) more ∙ ap (λ (t : List ℕ). t ++ ((48 + n % 10) ∷ [])) (low_all f (n / 10) (omega arith)) ∙ sym (decimal_more n (omega arith)))

-- The digits of n are the last k of rest, for which there is room, and a tail, which is put behind that room.
pub record Tail (n rest : ℕ) (before : List ℕ) (at to : ℕ) (after : List ℕ) : Type 0 where
  pub left : ℕ
  pub tail : List ℕ
  pub split : decimal n ≡ low left rest ++ tail
  pub place : to ≡ at + left
  pub placed : Placed tail before to after

pub tail_none : (n : ℕ) (l : List ℕ) (at to : ℕ) → to ≡ at + length (decimal n) → Tail n n l at to l
tail_none n l at to e =
    record {
      left = length (decimal n);
      tail = [];
      split = sym (low_all (suc n) n (omega arith)) ∙ sym (append-nil (low (length (decimal n)) n));
      place = e;
      placed = placed_none l to;
    }

-- one digit more
pub tail_more : {n rest : ℕ} {l l' : List ℕ} {at to : ℕ} → Tail n rest l at (to + 1) l' → at ≤ to → to < length l
    → Tail n (rest / 10) l at to (set l' to (48 + rest % 10))
tail_more {n} {rest} {l} {l'} {at} {to} T h room = of T.left T.split T.place
  where
    of : (left : ℕ) → decimal n ≡ low left rest ++ T.tail → to + 1 ≡ at + left → Tail n (rest / 10) l at to (set l' to (48 + rest % 10))
    of zero split place = absurd (omega arith)
    of (suc left) split place =
        record {
          left = left;
          tail = (48 + rest % 10) ∷ T.tail;
          split = split ∙ append_assoc (low left (rest / 10)) ((48 + rest % 10) ∷ []) T.tail;
          place = omega arith;
          placed = placed_before T.placed refl (placed_byte l' to (48 + rest % 10) (omega (arith, T.placed.size)));
        }

-- all digits
pub tail_all : {n rest : ℕ} {l l' : List ℕ} {at to : ℕ} → Tail n rest l at to l' → to ≤ at → Placed (decimal n) l at l'
tail_all {n} {rest} {l} {l'} {at} {to} T h = of T.left T.split T.place
  where
    of : (left : ℕ) → decimal n ≡ low left rest ++ T.tail → to ≡ at + left → Placed (decimal n) l at l'
    of zero split place =
        let start : to ≡ at = omega arith in
        subst (λ (t : List ℕ). Placed t l at l') (sym split) (subst (λ (p : ℕ). Placed T.tail l p l') start T.placed)
    of (suc left) split place = absurd (omega arith)

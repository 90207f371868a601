-- Buffers of rows: equal rows are equal numbers, and what a list, a full buffer and a cleared one fix. Assumes nothing.
use mathlib.Core.Logic.{dite}
use mathlib.Core.Path.{◌≡◌, sym, ap, subst, ◌∙◌}
use mathlib.Core.List.{List}
use Prim.Native.Nat.{ℕ, ◌+◌, ◌*◌, ◌/◌, ◌%◌, ◌≤◌, ◌<◌}
use native.Mathlib.Decide.{ℕ_discrete, dec_lt}
use native.Mathlib.Omega.{arith}
use lib.ListN.{length, get_or, take, length-take}
use lib.Seq.{ext_get_or, get_or-take}
use Rattle.cliques.specs.Groups.{Row}
use Rattle.cliques.specs.Lists.{Listed}
use Rattle.cliques.specs.Buffers.{row, whole_rows, ListIn, TooMany, Cleared}
use Rattle.cliques.proofs.Rows.{same_row}
use Rattle.cliques.proofs.OneList.{one_length, one_list, listed_as}

-- ---- rows and numbers

-- the numbers of two buffers are the same where their rows are
same_numbers : (l l' : List ℕ) (n : ℕ) → row l (n / 3) ≡ row l' (n / 3) → get_or l n 0 ≡ get_or l' n 0
same_numbers l l' n e = dite (ℕ_discrete (n % 3) 0)
    (λ z. at (3 * (n / 3)) (omega arith) (ap (λ (r : Row). r.begin) e))
    (λ f. dite (ℕ_discrete (n % 3) 1)
    (λ z. at (3 * (n / 3) + 1) (omega arith) (ap (λ (r : Row). r.end) e))
    (λ h. at (3 * (n / 3) + 2) (omega arith) (ap (λ (r : Row). r.members) e)))
  where
    at : (m : ℕ) → m ≡ n → get_or l m 0 ≡ get_or l' m 0 → get_or l n 0 ≡ get_or l' n 0
    at m s h = subst (λ (x : ℕ). get_or l x 0 ≡ get_or l' x 0) s h

-- and their rows are the same where their numbers are
pub same_rows : (l l' : List ℕ) {k : ℕ} → ((n : ℕ) → n < 3 * k → get_or l n 0 ≡ get_or l' n 0) → (i : ℕ) → i < k → row l i ≡ row l' i
same_rows l l' e i h = same_row (e (3 * i) (omega arith)) (e (3 * i + 1) (omega arith)) (e (3 * i + 2) (omega arith))

module _ {P : Row → Type 0} {k k' : ℕ} (l l' : List ℕ) (C : Listed P (row l) k) (C' : Listed P (row l') k') where
  -- two buffers with the list of one set have the same numbers there
  pub one_numbers : (n : ℕ) → n < 3 * k → get_or l n 0 ≡ get_or l' n 0
  one_numbers n h = same_numbers l l' n (one_list C C' (n / 3) (omega arith))

  -- so these are the same list of numbers
  pub one_take : 3 * k ≤ length l → 3 * k' ≤ length l' → take (3 * k) l ≡ take (3 * k') l'
  one_take fits fits' =
      ext_get_or 0 (take (3 * k) l) (take (3 * k') l')
      (omega (arith, one_length C C', length-take (3 * k) l, length-take (3 * k') l'))
      (λ i h.
      let low : i < 3 * k = omega (arith, length-take (3 * k) l) in
      get_or-take (3 * k) l i 0 low ∙ one_numbers i low ∙ sym (get_or-take (3 * k') l' i 0 (omega (arith, one_length C C'))))

-- ---- what a buffer holds after a call

-- no second content fits a list, ..
pub list_in_one : {P : Row → Type 0} {before a b : List ℕ} {k m : ℕ} → ListIn P before a k → ListIn P before b m → a ≡ b
list_in_one {a = a} {b = b} {k = k} p q =
    let same = one_length p.list q.list in
    ext_get_or 0 a b (p.size ∙ sym q.size) (λ i h. dite (dec_lt i (3 * k))
    (λ l. one_numbers a b p.list q.list i l)
    (λ l. p.rest i (omega arith) ∙ sym (q.rest i (omega arith))))

-- nor a cleared buffer
pub cleared_one : {before a b : List ℕ} → Cleared before a → Cleared before b → a ≡ b
cleared_one {before} {a} {b} p q = ext_get_or 0 a b (p.size ∙ sym q.size) (λ i h. dite (dec_lt i (3 * whole_rows before))
    (λ l. p.zero i l ∙ sym (q.zero i l))
    (λ l. p.rest i (omega arith) ∙ sym (q.rest i (omega arith))))

-- a list does not fit and fits too
pub fits_not : {P : Row → Type 0} {before after : List ℕ} {k : ℕ} → ListIn P before after k → TooMany P before → ⊥
fits_not p q = omega (arith, p.fits, q.more, one_length p.list q.list)

-- sets with the same rows are listed alike
pub list_in_as : {P Q : Row → Type 0} {before after : List ℕ} {k : ℕ} → ((c : Row) → P c → Q c) → ((c : Row) → Q c → P c) → ListIn P before after k → ListIn Q before after k
list_in_as to from w = record { list = listed_as to from w.list; fits = w.fits; size = w.size; rest = w.rest }

pub too_many_as : {P Q : Row → Type 0} {before : List ℕ} → ((c : Row) → P c → Q c) → ((c : Row) → Q c → P c) → TooMany P before → TooMany Q before
too_many_as to from w = record { rows = w.rows; count = w.count; list = listed_as to from w.list; more = w.more }

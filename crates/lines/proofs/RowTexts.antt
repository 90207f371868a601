-- The lines of the rows of a list, one after another. Assumes nothing.
use mathlib.Core.List.{List, [], ◌++◌}
use mathlib.Core.Path.{◌≡◌, refl, ap, subst, ◌∙◌}
use Prim.Native.Nat.{ℕ, zero, suc, ◌+◌, ◌*◌, ◌-◌, ◌≤◌, ◌<◌}
use native.Mathlib.Nat.{mul-suc}
use native.Mathlib.Numerals.{add-one}
use native.Mathlib.Omega.{arith}
use lib.ListN.{length, get_or, drop, length-append}
use lib.Seq.{get_or-take, get_or-drop}
use Rattle.std.specs.Simd.{first_chunks}
use Rattle.lines.specs.Text.{row_of, row_at, rows_of}

-- one row more
pub rows_next : (rows : List ℕ) (i : ℕ) → rows_of rows (i + 1) ≡ rows_of rows i ++ row_at rows i
unfolding rows_of
rows_next rows i = ap (rows_of rows) (add-one i)

pub rows_length : (rows : List ℕ) (i : ℕ) → length (rows_of rows (i + 1)) ≡ length (rows_of rows i) + length (row_at rows i)
rows_length rows i = ap length (rows_next rows i) ∙ length-append (rows_of rows i) (row_at rows i)

-- more rows, no shorter text
pub rows_longer : (rows : List ℕ) (i d : ℕ) → length (rows_of rows i) ≤ length (rows_of rows (i + d))
rows_longer rows i zero = omega (arith, (let e : i + 0 ≡ i = omega arith in ap (λ (n : ℕ). length (rows_of rows n)) e))
rows_longer rows i (suc d) = omega (arith, rows_longer rows i d, rows_length rows (i + d), (let e : i + suc d ≡ i + d + 1 = omega arith in ap (λ (n : ℕ). length (rows_of rows n)) e))

pub rows_upto : (rows : List ℕ) {i n : ℕ} → i ≤ n → length (rows_of rows i) ≤ length (rows_of rows n)
rows_upto rows {i} {n} h =
    let e : i + (n - i) ≡ n = omega arith in
    subst (λ (m : ℕ). length (rows_of rows i) ≤ length (rows_of rows m)) e (rows_longer rows i (n - i))

-- rows of so many bytes at most
pub rows_most : (rows : List ℕ) (m n : ℕ) → ((i : ℕ) → i < n → length (row_at rows i) ≤ m) → length (rows_of rows n) ≤ m * n
unfolding rows_of
rows_most rows m zero f = omega arith
rows_most rows m (suc n) f =
    omega (arith, length-append (rows_of rows n) (row_at rows n), rows_most rows m n (λ i h. f i (omega arith)), f n (omega arith), mul-suc m n)

-- the same rows, the same lines
pub rows_same : (a b : List ℕ) (n : ℕ) → ((j : ℕ) → j < 3 * n → get_or a j 0 ≡ get_or b j 0) → rows_of a n ≡ rows_of b n
unfolding rows_of
rows_same a b zero f = refl
rows_same a b (suc n) f =
    let x = f (3 * n) (omega arith) in
    let y = f (3 * n + 1) (omega arith) in
    let z = f (3 * n + 2) (omega arith) in
    λ i. rows_same a b n (λ j h. f j (omega arith)) i ++ row_of (x i) (y i) (z i)

-- ---- a row as three numbers of its own

chunk_get : (xs : List ℕ) (k i j n : ℕ) → i < k → j < 3 → n ≡ 3 * i + j → get_or (get_or (first_chunks 3 k xs) i []) j 0 ≡ get_or xs n 0
chunk_get xs zero i j n h l e = absurd (omega arith)
chunk_get xs (suc k) zero j n h l e = get_or-take 3 xs j 0 l ∙ ap (λ (m : ℕ). get_or xs m 0) (omega arith)
chunk_get xs (suc k) (suc i) j n h l e =
    chunk_get (drop 3 xs) k i j (n - 3) (omega arith) l (omega arith) ∙ get_or-drop 3 xs (n - 3) 0 ∙ ap (λ (m : ℕ). get_or xs m 0) (omega arith)

-- its line is that of the list
pub chunk_row : (xs : List ℕ) {rows : List (List ℕ)} {k i : ℕ} → rows ≡ first_chunks 3 k xs → i < k → row_at (get_or rows i []) 0 ≡ row_at xs i
chunk_row xs {k = k} {i = i} e h =
    ap (λ (r : List (List ℕ)). row_at (get_or r i []) 0) e
    ∙ (λ t.
    row_of (chunk_get xs k i 0 (3 * i) h (omega arith) (omega arith) t) (chunk_get xs k i 1 (3 * i + 1) h (omega arith) refl t)
    (chunk_get xs k i 2 (3 * i + 2) h (omega arith) refl t))

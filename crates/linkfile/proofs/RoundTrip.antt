-- Reading and writing undo one another: a written file reads to its table, and a file that reads at all is the one file of what it reads to. Assumes nothing.
use mathlib.Core.Path.{◌≡◌, refl, sym, ap, ◌∙◌}
use mathlib.Core.List.{List}
use Rattle.std.proofs.Common.{Ok}
use Prim.Native.Nat.{ℕ, ◌+◌, ◌*◌, ◌/◌, ◌≤◌}
use native.Mathlib.Omega.{arith}
use borrow.Author.Tests.{ltb-false}
use lib.ListN.{length, take, drop}
use lib.Seq.{take_at}
use Rattle.links.specs.Links.{count, Accepted}
use Rattle.links.specs.Faults.{Fault, no_fault, table_fault}
use Rattle.links.proofs.Reasons.{no_fault_accepted, accepted_no_fault}
use Rattle.linkfile.specs.Numbers.{overwrite, Bytes}
use Rattle.linkfile.specs.Files.{file_of}
use Rattle.linkfile.specs.Reading.{Outcome, accepted, read_of, numbers_of}
use Rattle.linkfile.specs.Replies.{Read, outcome_of, numbers_after, Reads, Written, fault_in, length_in, write_fault, length_after, bytes_after, Writes}
use Rattle.linkfile.proofs.FileLaws.{length_file, length_numbers}
use Rattle.linkfile.proofs.ReadTold.{told_whole}
use Rattle.linkfile.proofs.ReadLaws.{or_none, if_none}
use Rattle.linkfile.proofs.WriteLaws.{write_fine}
use Rattle.linkfile.proofs.WholeFile.{whole_reads, written_whole, written_numbers, whole_file}

-- the writer has accepted, answers the length of `file`, and has written it
pub record Wrote (file buffer buffer' : List ℕ) (w : Written) : Type 0 where
  pub reply : fault_in w ≡ no_fault
  pub size : length_in w ≡ length file
  pub memory : buffer' ≡ overwrite file buffer

-- ---- lengths

-- a file has 18 n + 18 bytes
pub file_length : (t : List ℕ) (g : ℕ) → length (file_of t g) ≡ 18 * count t + 18
file_length t g = length_file t g

-- the largest file of an accepted table has 36,882 bytes
pub file_most : {t : List ℕ} {g : ℕ} → Accepted t g → length (file_of t g) ≤ 36882
file_most {t} {g} A = omega (arith, length_file t g, A.few)

-- ---- writing, then reading

-- the file of an accepted table reads to the same gauge count and as many links, given room
pub file_reads : {t : List ℕ} {g : ℕ} → Accepted t g → (room : ℕ) → count t ≤ room → read_of (file_of t g) room ≡ accepted g (count t)
file_reads A room h = whole_reads (written_whole A) room h

-- and to the same numbers
pub file_numbers : {t : List ℕ} {g : ℕ} → Accepted t g → numbers_of (file_of t g) (count t) ≡ t
file_numbers A = written_numbers A

-- what `write` left, read by `read` with room for it, gives the gauge count, the count of links and the numbers back
pub write_read : {t buffer buffer' numbers numbers' : List ℕ} {g : ℕ} {w : Written} {r : Read}
    → Writes t g buffer buffer' w
    → fault_in w ≡ no_fault
    → Reads (take (length_in w) buffer') numbers numbers' r
    → count t ≤ length numbers / 4
    → (outcome_of r ≡ accepted g (count t)) × (numbers' ≡ overwrite t numbers)
write_read {t} {buffer} {buffer'} {numbers} {g = g} {w = w} W fine R room =
    let none : write_fault t g (length buffer) ≡ no_fault = sym W.reply ∙ fine in
    let A : Accepted t g = no_fault_accepted t g (or_none (table_fault t g) _ none).0 in
    let size : length_in w ≡ length (file_of t g) = W.size ∙ ap (λ (f : Fault). length_after f (file_of t g)) none in
    let file : take (length_in w) buffer' ≡ file_of t g =
    (λ i. take (size i) ((W.memory ∙ ap (λ (f : Fault). bytes_after f (file_of t g) buffer) none) i))
    ∙ take_at (file_of t g) (drop (length (file_of t g)) buffer) (length (file_of t g)) refl in
    let reads : read_of (take (length_in w) buffer') (length numbers / 4) ≡ accepted g (count t) =
    ap (λ (b : List ℕ). read_of b (length numbers / 4)) file ∙ file_reads A (length numbers / 4) room in
    (R.reply ∙ reads, R.memory ∙ (λ i. numbers_after (reads i) (file i) numbers) ∙ ap (λ (n : List ℕ). overwrite n numbers) (file_numbers A))

-- ---- reading, then writing

-- a file that reads at all is the file of its numbers and its gauge count
pub read_is_file : {bytes : List ℕ} → Bytes bytes → (room : ℕ) {g n : ℕ} → read_of bytes room ≡ accepted g n → bytes ≡ file_of (numbers_of bytes n) g
read_is_file {bytes} B room reads = whole_file B (told_whole bytes room reads)

-- no other file reads to the same gauge count and numbers
pub one_file : {a b : List ℕ} → Bytes a → Bytes b → (room room' : ℕ) {g n m : ℕ} → read_of a room ≡ accepted g n → read_of b room' ≡ accepted g m
    → numbers_of a n ≡ numbers_of b m
    → a ≡ b
one_file A B room room' {g} p q e = read_is_file A room p ∙ ap (λ (t : List ℕ). file_of t g) e ∙ sym (read_is_file B room' q)

-- the file that `write` made lies in the buffer
pub written_fits : {t bytes bytes' : List ℕ} {g n : ℕ} {r : Written} → Writes t g bytes bytes' r → r ≡ Ok n → n ≤ length bytes
written_fits {t} {bytes} {g = g} W e =
    let none : write_fault t g (length bytes) ≡ no_fault = sym W.reply ∙ ap fault_in e in
    let fits : length (file_of t g) ≤ length bytes = ltb-false _ _ (if_none _ 26 0 (or_none (table_fault t g) _ none).1) in
    omega (arith, sym (ap length_in e) ∙ W.size ∙ ap (λ (f : Fault). length_after f (file_of t g)) none, fits)

-- the numbers that `read` leaves of an accepted file, four a link
pub read_numbers_lem : {bytes numbers numbers' : List ℕ} {g n : ℕ} {r : Read} → Reads bytes numbers numbers' r → outcome_of r ≡ accepted g n
    → take (4 * n) numbers' ≡ numbers_of bytes n
read_numbers_lem {bytes} {numbers} {n = n} R o =
    ap (take (4 * n)) (R.memory ∙ ap (λ (x : Outcome). numbers_after x bytes numbers) (sym R.reply ∙ o))
    ∙ take_at (numbers_of bytes n) (drop (length (numbers_of bytes n)) numbers) (4 * n) (length_numbers bytes n)

-- if `read` accepts a file and left an accepted table, `write` of that table gives the same bytes, given a buffer that is long enough
pub read_write : {bytes numbers numbers' buffer buffer' : List ℕ} {g n : ℕ} {r : Read} {w : Written}
    → Bytes bytes
    → Reads bytes numbers numbers' r
    → outcome_of r ≡ accepted g n
    → Accepted (take (4 * n) numbers') g
    → Writes (take (4 * n) numbers') g buffer buffer' w
    → length bytes ≤ length buffer
    → Wrote bytes buffer buffer' w
read_write {bytes} {numbers} {numbers'} {buffer} {g = g} {n = n} B R o A W fits =
    let t = take (4 * n) numbers' in
    let reads : read_of bytes (length numbers / 4) ≡ accepted g n = sym R.reply ∙ o in
    let file : file_of t g ≡ bytes = ap (λ (x : List ℕ). file_of x g) (read_numbers_lem R o) ∙ sym (read_is_file B (length numbers / 4) reads) in
    let none : write_fault t g (length buffer) ≡ no_fault =
    write_fine t g (length buffer) (accepted_no_fault t g A) (omega (arith, length_file t g, ap length file)) in
    record {
      reply = W.reply ∙ none;
      size = W.size ∙ ap (λ (f : Fault). length_after f (file_of t g)) none ∙ ap length file;
      memory = W.memory ∙ ap (λ (f : Fault). bytes_after f (file_of t g) buffer) none ∙ ap (λ (x : List ℕ). overwrite x buffer) file;
    }

-- The writer's promise on each way out: refused for the table, refused for the buffer, and written. Assumes nothing.
use mathlib.Core.Bool.{Bool, true, false}
use mathlib.Core.Path.{◌≡◌, refl, sym, ap, subst, ◌∙◌}
use mathlib.Core.List.{List}
use Prim.Native.Nat.{ℕ, ◌+◌, ◌*◌, ◌≤◌, ◌<◌}
use native.Mathlib.Omega.{arith}
use borrow.Author.Tests.{lt-ltb, le-ltb}
use lib.Dec.{ltb}
use lib.ListN.{length}
use Rattle.links.specs.Links.{count}
use Rattle.links.specs.Faults.{Fault, no_fault, fault, if_so, ◌or_else◌, table_fault}
use Rattle.links.proofs.Numbered.{IsNumber, given_number}
use Rattle.links.proofs.Reasons.{fault≢no_fault, reason_of, fault_first}
use Rattle.linkfile.specs.Files.{file_of}
use Rattle.linkfile.specs.Replies.{Written, fault_in, length_in, length_after, bytes_after, write_fault, Writes}
use Rattle.linkfile.proofs.FileLaws.{length_file}

module _ (t : List ℕ) (g room : ℕ) where
  pub write_table : {m p : ℕ} → table_fault t g ≡ fault m p → write_fault t g room ≡ fault m p
  write_table e = rw e

  module _ (fine : table_fault t g ≡ no_fault) where
    pub write_short : room < 18 * count t + 18 → write_fault t g room ≡ fault 26 0
    write_short h = rw (fine, lt-ltb room (length (file_of t g)) (omega (arith, length_file t g)))

    pub write_fine : 18 * count t + 18 ≤ room → write_fault t g room ≡ no_fault
    write_fine h = rw (fine, le-ltb room (length (file_of t g)) (omega (arith, length_file t g)))

-- a reason to refuse the writing has a number that a reason has
pub write_number : (t : List ℕ) (g room : ℕ) {n p : ℕ} → write_fault t g room ≡ fault n p → IsNumber n
write_number t g room e = of (table_fault t g) refl (ltb room (length (file_of t g))) e
  where
    of : {n p : ℕ} (f : Fault) → table_fault t g ≡ f → (b : Bool) → (f or_else if_so b 26 0) ≡ fault n p → IsNumber n
    of (fault m q) d b w = subst IsNumber (ap reason_of w) (given_number (fault_first t g d).given)
    of no_fault d true w = subst IsNumber (ap reason_of w) refl
    of no_fault d false w = absurd (fault≢no_fault (sym w))

module _ {t bytes bytes' : List ℕ} {g : ℕ} where
  pub writes_as : (r : Written) (f : Fault) → write_fault t g (length bytes) ≡ f → fault_in r ≡ f → length_in r ≡ length_after f (file_of t g)
      → bytes' ≡ bytes_after f (file_of t g) bytes → Writes t g bytes bytes' r
  writes_as r f e p q s = record {
    reply = p ∙ sym e;
    size = q ∙ ap (λ (x : Fault). length_after x (file_of t g)) (sym e);
    memory = s ∙ ap (λ (x : Fault). bytes_after x (file_of t g) bytes) (sym e);
  }

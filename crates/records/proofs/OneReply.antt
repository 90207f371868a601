-- What the promises over records fix. The promise of each entry is that of the entry over numbers at the records' numbers in order, `flat ls`: so no second reply fits it, and its reply is the one that the entry
-- over numbers gives. Link i of the table is record i; reason 1 never occurs, and 2 exactly with more than 2,048 records: then nothing else is looked at, and what was lent is unchanged. Assumes nothing.
use mathlib.Core.Path.{◌≡◌, refl, sym, ap, ◌∙◌}
use mathlib.Core.List.{List, [], ◌∷◌}
use Prim.Native.Nat.{ℕ, zero, suc, ◌+◌, ◌*◌, ◌≤◌, ◌<◌}
use native.Mathlib.Omega.{arith}
use lib.ListN.{length, get_or}
use Rattle.std.specs.Prelude.{Err}
use Rattle.links.specs.Links.{count, begins, ends, one, other}
use Rattle.links.specs.Faults.{Given, not_fours, too_many, fault, table_fault}
use Rattle.links.specs.Replies.{Check, fault_of}
use Rattle.links.specs.declared.reply.Refusal.{Refusal}
use Rattle.links.specs.declared.reply.Reason.TheVariants.{TooManyLinks}
use Rattle.links.proofs.FaultLaws.{head_2, table_head}
use Rattle.links.proofs.Reasons.{fault_first}
use Rattle.links.proofs.OneReply as Checking
use Rattle.groups.specs.Replies.{Listed, Listing, refused}
use Rattle.groups.proofs.OneReply as Grouping
use Rattle.question.specs.Answers.{Answer, said_of, Right}
use Rattle.question.proofs.Reasons.{question_table}
use Rattle.question.proofs.OneReply as Asking
use Rattle.linkfile.specs.Replies.{Written, Writes}
use Rattle.linkfile.proofs.WriteLaws.{write_table, writes_as}
use Rattle.linkfile.proofs.OneReply as Writing
use Rattle.records.specs.declared.Link.{Link}
use Rattle.records.specs.Flat.{flat}
use Rattle.records.proofs.Laws.{length_flat}

-- ---- the table of the records

-- it has as many links as there are records
pub flat_count : (ls : List Link) → count (flat ls) ≡ length ls
flat_count ls = omega (arith, length_flat ls)

-- link i of the table t has the four numbers of the record l
pub record SameLink (t : List ℕ) (i : ℕ) (l : Link) : Type 0 where
  pub b : begins t i ≡ l.b
  pub e : ends t i ≡ l.e
  pub u : one t i ≡ l.u
  pub v : other t i ≡ l.v

-- a number behind the first record
past : (l : Link) (ns : List ℕ) (i j : ℕ) → j ≡ suc (suc (suc (suc i))) → get_or (l.b ∷ l.e ∷ l.u ∷ l.v ∷ ns) j 0 ≡ get_or ns i 0
past l ns i j h = ap (λ (k : ℕ). get_or (l.b ∷ l.e ∷ l.u ∷ l.v ∷ ns) k 0) h

-- link i of it is record i
pub flat_link : (ls : List Link) (i : ℕ) (none : Link) → i < length ls → SameLink (flat ls) i (get_or ls i none)
flat_link [] i none h = absurd (omega arith)
flat_link (l ∷ ls) zero none h = record { b = refl; e = refl; u = refl; v = refl }
flat_link (l ∷ ls) (suc i) none h =
    let s = flat_link ls i none (omega arith) in record {
      b = past l (flat ls) (4 * i) (4 * suc i) (omega arith) ∙ s.b;
      e = past l (flat ls) (4 * i + 1) (4 * suc i + 1) (omega arith) ∙ s.e;
      u = past l (flat ls) (4 * i + 2) (4 * suc i + 2) (omega arith) ∙ s.u;
      v = past l (flat ls) (4 * i + 3) (4 * suc i + 3) (omega arith) ∙ s.v;
    }

module _ (ls : List Link) (g : ℕ) where
  -- reason 1 never occurs
  pub never_1 : {p : ℕ} → table_fault (flat ls) g ≡ fault 1 p → ⊥
  never_1 e = whole (fault_first (flat ls) g e).given
    where
      whole : {p : ℕ} → Given (flat ls) g 1 p → ⊥
      whole (not_fours f) = f (omega (arith, length_flat ls))

  -- more than 2,048 records are reason 2 at place 0, whatever else holds
  pub many_2 : 2048 < length ls → table_fault (flat ls) g ≡ fault 2 0
  many_2 many = table_head (flat ls) g (head_2 (flat ls) g (omega (arith, length_flat ls)) (omega (arith, length_flat ls)))

  -- and at most 2,048 never are
  pub few_2 : {p : ℕ} → length ls ≤ 2048 → table_fault (flat ls) g ≡ fault 2 p → ⊥
  few_2 few e = not_many (fault_first (flat ls) g e).given
    where
      not_many : {p : ℕ} → Given (flat ls) g 2 p → ⊥
      not_many (too_many more) = omega (arith, length_flat ls)

-- ---- no second reply fits, and no second content of what was lent

module _ (ls : List Link) (g : ℕ) where
  pub check_one : (a b : Check) → fault_of a ≡ table_fault (flat ls) g → fault_of b ≡ table_fault (flat ls) g → a ≡ b
  check_one a b p q = Checking.check_one (flat ls) g a b p q

  pub list_one : {before after after' : List ℕ} {r r' : Listed} → Listing (flat ls) g before r after → Listing (flat ls) g before r' after' → (r ≡ r') × (after ≡ after')
  list_one p q = Grouping.list_one p q

  pub ask_one : (m x y : ℕ) (a b : Answer) → Right (flat ls) g m x y (said_of a) → Right (flat ls) g m x y (said_of b) → a ≡ b
  ask_one m x y a b p q = Asking.ask_one (flat ls) g m x y a b p q

  pub write_one : {bytes b₁ b₂ : List ℕ} {a b : Written} → Writes (flat ls) g bytes b₁ a → Writes (flat ls) g bytes b₂ b → (a ≡ b) × (b₁ ≡ b₂)
  write_one p q = Writing.write_one p q

-- ---- the reply to more than 2,048 records

abbrev why : Refusal
why = record { reason = TooManyLinks; place = 0 }

module _ (ls : List Link) (g : ℕ) (many : 2048 < length ls) where
  pub check_many : (r : Check) → fault_of r ≡ table_fault (flat ls) g → r ≡ Err why
  check_many r p = check_one ls g r (Err why) p (sym (many_2 ls g many))

  pub list_many : {before after : List ℕ} {r : Listed} → Listing (flat ls) g before r after → (r ≡ Err why) × (after ≡ before)
  list_many p = list_one ls g p (refused (many_2 ls g many) refl refl)

  pub ask_many : (m x y : ℕ) (r : Answer) → Right (flat ls) g m x y (said_of r) → r ≡ Err why
  ask_many m x y r p = ask_one ls g m x y r (Err why) p (question_table (flat ls) g m x y (many_2 ls g many))

  pub write_many : {bytes bytes' : List ℕ} {r : Written} → Writes (flat ls) g bytes bytes' r → (r ≡ Err why) × (bytes' ≡ bytes)
  write_many {bytes} p = write_one ls g p (writes_as (Err why) _ (write_table (flat ls) g (length bytes) (many_2 ls g many)) refl refl refl)

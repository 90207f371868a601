-- What the promises of the entries fix: no second five numbers fit, and no second content of the lent memory, for every input. Assumes nothing.
use mathlib.Core.Path.{◌≡◌, sym, ap, ◌∙◌}
use mathlib.Core.List.{List}
use Prim.Native.Nat.{ℕ}
use Rattle.links.proofs.OneReply.{check_one}
use Rattle.groups.proofs.OneReply.{list_one}
use Rattle.question.proofs.OneReply.{ask_one}
use Rattle.linkfile.proofs.OneReply.{read_one, write_one}
use Rattle.report.proofs.OneReply.{listing_one}
use Rattle.exports.specs.Numbers.{check_numbers, list_numbers, ask_numbers, read_numbers, write_numbers, listing_numbers}
use Rattle.exports.specs.Replies.{Checks, Lists, Asks, Reads, Writes, Prints}

-- numbers that are told of the same reply are the same
told_one : {A : Type 0} (numbers_of : A → List ℕ) {a b : A} {r s : List ℕ} → a ≡ b → r ≡ numbers_of a → s ≡ numbers_of b → r ≡ s
told_one numbers_of same p q = p ∙ ap numbers_of same ∙ sym q

pub checks_one : {t r r' : List ℕ} {g : ℕ} → Checks t g r → Checks t g r' → r ≡ r'
checks_one {t} {g = g} a b = told_one check_numbers (check_one t g a.said b.said a.kept b.kept) a.told b.told

pub lists_one : {t before after after' r r' : List ℕ} {g : ℕ} → Lists t g before after r → Lists t g before after' r' → (r ≡ r') × (after ≡ after')
lists_one a b = let s = list_one a.kept b.kept in (told_one list_numbers s.0 a.told b.told, s.1)

pub asks_one : {t r r' : List ℕ} {g m x y : ℕ} → Asks t g m x y r → Asks t g m x y r' → r ≡ r'
asks_one {t} {g = g} {m} {x} {y} a b =
    told_one ask_numbers (ask_one t g m x y a.said b.said a.kept b.kept) a.told b.told

pub reads_one : {bytes before after after' r r' : List ℕ} → Reads bytes before after r → Reads bytes before after' r' → (r ≡ r') × (after ≡ after')
reads_one a b = let s = read_one a.kept b.kept in (told_one read_numbers s.0 a.told b.told, s.1)

pub writes_one : {t before after after' r r' : List ℕ} {g : ℕ} → Writes t g before after r → Writes t g before after' r' → (r ≡ r') × (after ≡ after')
writes_one a b = let s = write_one a.kept b.kept in (told_one write_numbers s.0 a.told b.told, s.1)

pub prints_one : {input before after after' r r' : List ℕ} → Prints input before after r → Prints input before after' r' → (r ≡ r') × (after ≡ after')
prints_one a b = let s = listing_one a.kept b.kept in (told_one listing_numbers s.0 a.told b.told, s.1)

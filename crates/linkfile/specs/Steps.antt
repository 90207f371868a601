-- For the contracts of internal functions: numbers read and stored, and one record of a file. Assumes nothing: these are definitions.
use Rattle.std.specs.Prelude.{◌≡◌, Bool, true, false, ◌||◌, List, [], ◌∷◌, ℕ, ◌+◌, ◌^◌, ◌≤◌, ◌<◌, eqb, length, Result, Ok, Err, MatchResult}
use Rattle.std.proofs.lemmas.List.Edits.{sets}
use Rattle.links.specs.Faults.{fault}
use Rattle.links.specs.Reasons.{number_of}
use Rattle.links.specs.declared.reply.Refusal.{Refusal}
use Rattle.linkfile.specs.Numbers.{number}
use Rattle.linkfile.specs.Records.{length_of, size_at, kind_at}
use Rattle.linkfile.specs.Reading.{record_fault}
use Rattle.linkfile.specs.declared.kinds.Kind.{Kind}
use Rattle.linkfile.specs.declared.kinds.Kind.TheVariants.{Opening, Link, Closing}
use Rattle.linkfile.specs.declared.kinds.UnknownKind.{UnknownKind}
use Rattle.linkfile.specs.declared.kinds.Record.{Record}

-- ---- numbers

-- r is the number of the w bytes from a place on, and no larger than w bytes hold
pub record Number (w : ℕ) (bytes : List ℕ) (at r : ℕ) : Type 0 where
  pub is : r ≡ number w bytes at
  pub small : r < 256 ^ w

-- l' is l with xs stored from a place on
pub record Put (l : List ℕ) (at : ℕ) (xs l' : List ℕ) : Type 0 where
  pub is : l' ≡ sets l at xs

-- ---- records

-- a whole record of this kind, with the length of its kind, stands at a place, and the next one's place is `next`
pub record RecordAt (bytes : List ℕ) (kind at next : ℕ) : Type 0 where
  pub size : size_at bytes at ≡ length_of kind
  pub kind_is : kind_at bytes at ≡ kind
  pub next_is : next ≡ at + 4 + length_of kind
  pub whole : next ≤ length bytes

-- the number of a kind
abbrev pub kind_number : Kind → ℕ
kind_number Opening = 1
kind_number Link = 2
kind_number Closing = 3

-- the reply is the kind with this number, or an error where no kind has it
abbrev pub Decodes : ℕ → Result Kind UnknownKind → Type 0
Decodes n r = MatchResult r (λ kind. kind_number kind ≡ n) (λ e. (kind : Kind) → kind_number kind ≡ n → ⊥)

-- whether a number is that of one of the kinds
abbrev pub one_of : List Kind → ℕ → Bool
one_of [] n = false
one_of (kind ∷ []) n = eqb n (kind_number kind)
one_of (kind ∷ more ∷ kinds) n = eqb n (kind_number kind) || one_of (more ∷ kinds) n

-- the record at a place: a whole one of an allowed kind, or its fault
abbrev pub RecordOf : List ℕ → (ℕ → Bool) → ℕ → Result Record Refusal → Type 0
RecordOf bytes allowed at (Ok r) = RecordAt bytes (kind_number r.kind) at r.next × (allowed (kind_number r.kind) ≡ true)
RecordOf bytes allowed at (Err r) = record_fault bytes allowed at ≡ fault (number_of r.reason) r.place

-- What the kind and the length of the record at a place say of it: that it is whole and of that kind, or why it is refused. Assumes nothing.
use Rattle.std.proofs.Common.{◌≡◌, refl, sym, ap, ◌∙◌, Bool, true, false, ◌||◌, List, [], ◌∷◌, ℕ, ◌+◌, ◌⊎◌, eqb, Result, Ok, Err, arith}
use Rattle.std.specs.List.{list_any}
use borrow.Author.Tests.{ne_eqb}
use mathlib.Core.Logic.{⊎_elim}
use Rattle.links.specs.Faults.{no_fault, fault}
use Rattle.linkfile.specs.Records.{length_of, size_at, kind_at, first, later}
use Rattle.linkfile.specs.Reading.{frame_fault, record_fault}
use Rattle.linkfile.specs.Steps.{RecordAt, kind_number, Decodes, one_of}
use Rattle.linkfile.specs.declared.kinds.Kind.{Kind}
use Rattle.linkfile.specs.declared.kinds.UnknownKind.{UnknownKind}
use Rattle.linkfile.specs.declared.kinds.Kind.TheVariants.{Opening, Link, Closing}
use Rattle.linkfile.specs.contracts.kinds.KindPartialEq.TheImpl.{ghosts}
use Rattle.linkfile.proofs.ReadLaws.{Framed, frame_told, record_kind, record_size}

-- kinds are the same if their numbers are
same_number : (a b : Kind) → ghosts.eq a b ≡ eqb (kind_number b) (kind_number a)
same_number Opening Opening = refl
same_number Opening Link = refl
same_number Opening Closing = refl
same_number Link Opening = refl
same_number Link Link = refl
same_number Link Closing = refl
same_number Closing Opening = refl
same_number Closing Link = refl
same_number Closing Closing = refl

or_no : (p : Bool) → (p || false) ≡ p
or_no true = refl
or_no false = refl

pub contained : (kinds : List Kind) (kind : Kind) → list_any (λ k. ghosts.eq k kind) kinds ≡ one_of kinds (kind_number kind)
contained [] kind = refl
contained (k ∷ []) kind = or_no _ ∙ same_number k kind
contained (k ∷ more ∷ kinds) kind = λ i. same_number k kind i || contained (more ∷ kinds) kind i

-- a number that no kind has is none of theirs
pub none_of : (kinds : List Kind) (n : ℕ) → ((kind : Kind) → kind_number kind ≡ n → ⊥) → one_of kinds n ≡ false
none_of [] n d = refl
none_of (k ∷ []) n d = ne_eqb n (kind_number k) (λ e. d k (sym e))
none_of (k ∷ more ∷ kinds) n d = rw (ne_eqb n (kind_number k) (λ e. d k (sym e))) (none_of (more ∷ kinds) n d)

-- a number that the opening kind doesn't have is no first record's
pub no_first : (n : ℕ) (r : Result Kind UnknownKind) → Decodes n r → (r ≡ Ok Opening → ⊥) → first n ≡ false
no_first n (Ok Opening) k o = absurd (o refl)
no_first n (Ok Link) k o = ne_eqb n 1 (λ e. omega (arith, k, e))
no_first n (Ok Closing) k o = ne_eqb n 1 (λ e. omega (arith, k, e))
no_first n (Err u) k o = ne_eqb n 1 (λ e. k Opening (sym e))

-- the opening kind's number, and one that no kind has, are no later record's
pub no_later : (n : ℕ) (r : Result Kind UnknownKind) → Decodes n r → (r ≡ Ok Opening) ⊎ ((u : UnknownKind) × (r ≡ Err u)) → later n ≡ false
no_later n (Ok Opening) k o = rw (ne_eqb n 2 (λ e. omega (arith, k, e)), ne_eqb n 3 (λ e. omega (arith, k, e)))
no_later n (Ok Link) k o = ⊎_elim (λ w. absurd (cc w)) (λ w. absurd (cc w.1)) o
no_later n (Ok Closing) k o = ⊎_elim (λ w. absurd (cc w)) (λ w. absurd (cc w.1)) o
no_later n (Err u) k o = rw (ne_eqb n 2 (λ e. k Link (sym e)), ne_eqb n 3 (λ e. k Closing (sym e)))

-- what code has read of the record at a place: its kind, and that it is framed
module _ (bytes : List ℕ) (at : ℕ) (framed : no_fault ≡ frame_fault bytes at) (allowed : ℕ → Bool) {n : ℕ} (is : n ≡ kind_at bytes at) where
  pub wrong_kind : allowed n ≡ false → record_fault bytes allowed at ≡ fault 21 at
  wrong_kind e = record_kind bytes at allowed (frame_told bytes at (sym framed)) (ap allowed (sym is) ∙ e)

  module _ (e : allowed n ≡ true) where
    pub wrong_length : (size_at bytes at ≡ length_of n → ⊥) → record_fault bytes allowed at ≡ fault 22 at
    wrong_length d = record_size bytes at allowed (frame_told bytes at (sym framed)) (ap allowed (sym is) ∙ e) (λ h. d (h ∙ ap length_of (sym is)))

  pub whole_record : size_at bytes at ≡ length_of n → {size : ℕ} → size ≡ length_of n → RecordAt bytes n at (at + 4 + size)
  whole_record e s =
      let F : Framed bytes at = frame_told bytes at (sym framed) in
      record { size = e; kind_is = sym is; next_is = ap (λ (k : ℕ). at + 4 + k) s; whole = omega (arith, F.whole, e, s) }

-- ---- the records that code allows

-- a record of which only the opening kind is allowed is the opening record
pub is_opening : {bytes : List ℕ} {at next : ℕ} (kind : Kind) → RecordAt bytes (kind_number kind) at next × (first (kind_number kind) ≡ true) → RecordAt bytes 1 at next
is_opening Opening w = w.0
is_opening Link w = absurd (cc w.1)
is_opening Closing w = absurd (cc w.1)

-- a later record that is not the closing record is a link
pub is_link : {bytes : List ℕ} {at next : ℕ} (kind : Kind) → RecordAt bytes (kind_number kind) at next × (later (kind_number kind) ≡ true) → (kind ≡ Closing → ⊥)
    → RecordAt bytes 2 at next
is_link Opening w d = absurd (cc w.1)
is_link Link w d = w.0
is_link Closing w d = absurd (d refl)

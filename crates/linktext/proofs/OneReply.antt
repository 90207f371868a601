-- No second reply and no second content of the lent bytes fit the promise of packing; and a packed file lies in the bytes. Assumes nothing.
use Rattle.std.proofs.Common.{◌≡◌, refl, sym, ap, ◌∙◌, false, eqb, List, [], ℕ, ◌≤◌, ◌<◌, length, Ok, Err, arith}
use borrow.Author.Tests.{ne_eqb}
use mathlib.Core.Path.{subst₂}
use Rattle.links.proofs.Numbered.{numbered, numbered_back}
use Rattle.links.specs.Reasons as Table
use Rattle.links.specs.declared.reply.Reason.{Reason}
use Rattle.links.specs.declared.reply.Reason.TheVariants.{NotFours}
use Rattle.linkfile.specs.Replies.{Written, Writes}
use Rattle.linkfile.proofs.OneReply.{write_one}
use Rattle.linkfile.proofs.RoundTrip.{written_fits}
use Rattle.linktext.specs.Texts as Text
use Rattle.linktext.specs.Texts.{choose, Parsed}
use Rattle.linktext.specs.Faults.{fault_number}
use Rattle.linktext.specs.Replies.{Packed, Said, file, refused, said_of, written_said, Packs, too_long, no_table, table}
use Rattle.linktext.specs.declared.reply.TextFault.{TextFault}
use Rattle.linktext.specs.declared.reply.TextFault.TheVariants.{NoGauges, NoLink, TooLarge, TooLong, Table as OfTable}

-- ---- what is said

abbrev first_of : Said → ℕ
first_of (file n) = n
first_of (refused n l) = n

abbrev line_of : Said → ℕ
line_of (file n) = 0
line_of (refused n l) = l

pub file≢refused : {m n l : ℕ} → file m ≡ refused n l → ⊥
file≢refused e = let z : ◌≡◌ {A = ℕ} 0 1 = cc in omega arith

-- no reason of the table has a number that `numbered` does not know
other : (r : Reason) (n : ℕ) → numbered n ≡ NotFours → 1 < n → Table.number_of r ≡ n → ⊥
other r n z h e =
    let first : NotFours ≡ r = sym z ∙ ap numbered (sym e) ∙ numbered_back r in
    let one : 1 ≡ Table.number_of r = ap Table.number_of first in
    omega arith

-- the reason of a number
abbrev of_number : ℕ → TextFault
of_number n = choose (eqb n 91) NoGauges (choose (eqb n 92) NoLink (choose (eqb n 93) TooLarge (choose (eqb n 94) TooLong (OfTable (numbered n)))))

number_back : (f : TextFault) → of_number (fault_number f) ≡ f
number_back NoGauges = refl
number_back NoLink = refl
number_back TooLarge = refl
number_back TooLong = refl
number_back (OfTable r) =
    let apart : (n : ℕ) → numbered n ≡ NotFours → 1 < n → eqb (Table.number_of r) n ≡ false = λ n z h. ne_eqb (Table.number_of r) n (other r n z h) in
    rw (apart 91 refl (omega arith), apart 92 refl (omega arith), apart 93 refl (omega arith), apart 94 refl (omega arith)) (ap OfTable (numbered_back r))

-- two reasons with one number are the same
fault_one : (a b : TextFault) → fault_number a ≡ fault_number b → a ≡ b
fault_one a b e = sym (number_back a) ∙ ap of_number e ∙ number_back b

-- two replies that say the same are the same
pub said_one : (r s : Packed) → said_of r ≡ said_of s → r ≡ s
said_one (Ok n) (Ok m) e = ap Ok (ap first_of e)
said_one (Ok n) (Err s) e = absurd (file≢refused e)
said_one (Err r) (Ok m) e = absurd (file≢refused (sym e))
said_one (Err r) (Err s) e =
    let same : r.fault ≡ s.fault = fault_one r.fault s.fault (ap first_of e) in
    λ i. Err (record { fault = same i; line = line_of (e i) })

-- ---- what is read

abbrev gauges_of : Parsed → ℕ
gauges_of (Text.table g ns) = g
gauges_of (Text.no_table n l) = n

abbrev numbers_of : Parsed → List ℕ
numbers_of (Text.table g ns) = ns
numbers_of (Text.no_table n l) = []

abbrev said_in : Parsed → Said
said_in (Text.table g ns) = file g
said_in (Text.no_table n l) = refused n l

-- a text is a table or it is none
pub table≢no_table : {g n l : ℕ} {ns : List ℕ} → Text.table g ns ≡ Text.no_table n l → ⊥
table≢no_table e = file≢refused (ap said_in e)

-- ---- the theorems

-- no second reply fits `pack`, and no other bytes
pub pack_one : {text before a b : List ℕ} {r s : Packed} → Packs text before r a → Packs text before s b → (r ≡ s) × (a ≡ b)
pack_one {r = r} {s = s} (too_long h e u) (too_long h' e' u') = (said_one r s (e ∙ sym e'), u ∙ sym u')
pack_one (too_long h e u) (no_table h' p e' u') = absurd (omega arith)
pack_one (too_long h e u) (table h' p w e') = absurd (omega arith)
pack_one (no_table h p e u) (too_long h' e' u') = absurd (omega arith)
pack_one {r = r} {s = s} (no_table h p e u) (no_table h' p' e' u') = (said_one r s (e ∙ ap said_in (sym p ∙ p') ∙ sym e'), u ∙ sym u')
pack_one (no_table h p e u) (table h' p' w e') = absurd (table≢no_table (sym p' ∙ p))
pack_one (table h p w e) (too_long h' e' u') = absurd (omega arith)
pack_one (table h p w e) (no_table h' p' e' u') = absurd (table≢no_table (sym p ∙ p'))
pack_one {before = before} {b = b} {r = r} {s = s} (table {g} {ns} h p w e) (table {w = w₂} h' p' w' e') =
    let same = sym p' ∙ p in
    let again : Writes ns g before b w₂ = subst₂ (λ (l : List ℕ) (k : ℕ). Writes l k before b w₂) (ap numbers_of same) (ap gauges_of same) w' in
    let one = write_one w again in
    (said_one r s (e ∙ ap written_said one.0 ∙ sym e'), one.1)

-- a packed file lies in the bytes
pub packed_fits : {text before after : List ℕ} {n : ℕ} {r : Packed} → Packs text before r after → r ≡ Ok n → n ≤ length before
packed_fits (too_long h e u) q = absurd (file≢refused (sym (ap said_of q) ∙ e))
packed_fits (no_table h p e u) q = absurd (file≢refused (sym (ap said_of q) ∙ e))
packed_fits {n = n} (table {w = w} h p W e) q = of w W (sym (ap said_of q) ∙ e)
  where
    of : {t : List ℕ} {g : ℕ} {before after : List ℕ} (w : Written) → Writes t g before after w → file n ≡ written_said w → n ≤ length before
    of (Ok m) W s = omega (arith, ap first_of s, written_fits W refl)
    of (Err why) W s = absurd (file≢refused s)

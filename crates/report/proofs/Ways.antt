-- From what reading and listing leave to the text of document 01. Assumes nothing.
use mathlib.Core.List.{List, [], ◌++◌}
use mathlib.Core.Path.{◌≡◌, refl, sym, ap, subst, ◌∙◌}
use Prim.Native.Nat.{ℕ, ◌*◌, ◌/◌, ◌≤◌}
use native.Mathlib.Omega.{arith}
use lib.ListN.{length, take}
use lib.Seq.{length-take-le, get_or-take}
use Rattle.links.specs.Links.{Joined, Accepted}
use Rattle.std.specs.Prelude.{Ok, Err}
use Rattle.links.specs.Reasons.{number_of}
use Rattle.links.specs.declared.reply.Refusal.{Refusal}
use Rattle.cliques.specs.Groups.{Group}
use Rattle.cliques.specs.Buffers.{ListIn}
use Rattle.groups.specs.Replies.{Outcome, groups, refusal, Listed, outcome_of, Listing, refused, listed, too_many}
use Rattle.groups.proofs.OneReply.{count_of, groups≢refusal}
use Rattle.linkfile.specs.Reading.{read_of}
use Rattle.linkfile.specs.Reading as Reading
use Rattle.linkfile.specs.Replies.{Read, Reads}
use Rattle.linkfile.specs.Replies as File
use Rattle.linkfile.specs.declared.reply.Counts.{Counts}
use Rattle.linkfile.proofs.ReadTold.{told_fits}
use Rattle.linkfile.proofs.RoundTrip.{read_numbers_lem}
use Rattle.lines.specs.Text.{header_of, refusal_of, lines_of, list_of}
use Rattle.lines.proofs.RowTexts.{rows_same}
use Rattle.report.specs.Listings as Text
use Rattle.report.specs.Listings.{TableText, FileText, ListingText, of_file}

-- ---- the list

-- the line of a refusal
abbrev line_of : Outcome → List ℕ
line_of (groups k) = []
line_of (refusal n p) = refusal_of n p

-- the first k rows, alone in their slice, have the lines of the list
first_rows : (rows : List ℕ) (k : ℕ) → 3 * k ≤ length rows → list_of (take (3 * k) rows) ≡ lines_of rows k
first_rows rows k h =
    let part = take (3 * k) rows in
    let all : length part / 3 ≡ k = omega (arith, length-take-le (3 * k) rows h) in
    ap (lines_of part) all ∙ ap (λ (l : List ℕ). header_of k ++ l) (rows_same part rows k (λ j g. get_or-take (3 * k) rows j 0 g))

module _ {t before after : List ℕ} {g : ℕ} {r : Listed} (room : length before ≡ 6144) (L : Listing t g before r after) where
  pub refused_text : (why : Refusal) → r ≡ Err why → TableText t g (refusal_of (number_of why.reason) why.place)
  refused_text why e = of L
    where
      said : outcome_of r ≡ refusal (number_of why.reason) why.place
      said = ap outcome_of e

      of : Listing t g before r after → TableText t g (refusal_of (number_of why.reason) why.place)
      of (refused d o s) = Text.faulty d (ap line_of (sym said ∙ o))
      of (listed A o w) = absurd (groups≢refusal (sym o ∙ said))
      of (too_many A m o c) = Text.too_many A m.list (omega (arith, m.more)) (ap line_of (sym said ∙ o))

  module _ {k : ℕ} (e : r ≡ Ok k) where
    -- the table is accepted, and its list is in the buffer
    found : Accepted t g × ListIn (Group (Joined t) g) before after k
    found = of L
      where
        said : outcome_of r ≡ groups k
        said = ap outcome_of e

        of : Listing t g before r after → Accepted t g × ListIn (Group (Joined t) g) before after k
        of (refused d o s) = absurd (groups≢refusal (sym said ∙ o))
        of (listed A o w) = (A, subst (ListIn (Group (Joined t) g) before after) (ap count_of (sym o ∙ said)) w)
        of (too_many A m o c) = absurd (groups≢refusal (sym said ∙ o))

    pub listed_fit : 3 * k ≤ length after
    listed_fit = omega (arith, found.1.fits, found.1.size)

    pub listed_few : 3 * k ≤ 6144
    listed_few = omega (arith, listed_fit, found.1.size)

    pub listed_text : TableText t g (list_of (take (3 * k) after))
    listed_text = Text.listed after found.0 found.1.list (omega (arith, listed_few)) (first_rows after k listed_fit)

-- ---- the file

-- what a reader with room for 2,048 links answers
answered : {bytes numbers numbers' : List ℕ} {r : Read} → length numbers ≡ 8192 → Reads bytes numbers numbers' r → File.outcome_of r ≡ read_of bytes 2048
answered {bytes} {numbers} room R =
    let links : length numbers / 4 ≡ 2048 = omega arith in
    R.reply ∙ ap (read_of bytes) links

module _ {bytes numbers numbers' : List ℕ} {r : Read} (few : length bytes ≤ 40960) (room : length numbers ≡ 8192) (R : Reads bytes numbers numbers' r) where
  -- a refused file
  pub unread_text : (why : Refusal) → r ≡ Err why → ListingText bytes (refusal_of (number_of why.reason) why.place)
  unread_text why e =
      of_file few (subst (λ (o : Reading.Outcome). FileText o bytes (refusal_of (number_of why.reason) why.place)) (ap File.outcome_of (sym e) ∙ answered room R) refl)

  module _ {c : Counts} (e : r ≡ Ok c) where
    -- the numbers of the links lie in the buffer
    pub read_few : c.links ≤ 2048
    read_few = told_fits bytes 2048 (sym (answered room R) ∙ ap File.outcome_of e)

    -- an accepted file has the text of its table
    pub read_text_lem : {text : List ℕ} → TableText (take (4 * c.links) numbers') c.gauges text → ListingText bytes text
    read_text_lem {text} T =
        of_file few (subst (λ (o : Reading.Outcome). FileText o bytes text) (ap File.outcome_of (sym e) ∙ answered room R)
        (subst (λ (t : List ℕ). TableText t c.gauges text) (read_numbers_lem R (ap File.outcome_of e)) T))

-- No listing is longer than 440,332 bytes: 2,048 rows of 215 bytes at most, and the line above them. Assumes nothing.
use mathlib.Core.List.{List}
use mathlib.Core.Path.{◌≡◌, refl, ap}
use Prim.Native.Nat.{ℕ, ◌≤◌}
use native.Mathlib.Nat.{lt_of_le_of_lt}
use native.Mathlib.Omega.{arith}
use lib.Dec.{lit≤}
use lib.ListN.{length, length-append}
use Rattle.links.specs.Links.{count, Joined, Accepted}
use Rattle.links.proofs.Reasons.{fault_first, given_few}
use Rattle.cliques.specs.Groups.{Row, Group}
use Rattle.cliques.specs.Lists.{Complete}
use Rattle.cliques.specs.Buffers.{row}
use Rattle.cliques.proofs.Cliques.{clique_pair}
use Rattle.linkfile.specs.Reading.{Outcome, accepted, refused, read_of}
use Rattle.linkfile.proofs.ReadTold.{told_fits}
use Rattle.linkfile.proofs.ReadPlaces.{refused_place}
use Rattle.linkfile.proofs.WholeFile.{count_numbers}
use Rattle.lines.specs.Text.{header_of, row_of, rows_of, refusal_of, lines_of}
use Rattle.lines.proofs.Decimals.{length_most}
use Rattle.lines.proofs.LineSizes.{header_size, refusal_most, row_in_time}
use Rattle.lines.proofs.RowTexts.{rows_most}
use Rattle.report.specs.Listings.{TableText, faulty, listed, too_many, FileText, ListingText, too_long, of_file}

-- the line of a refusal
refusal_few : (n p : ℕ) → n ≤ 27 → p ≤ 40960 → length (refusal_of n p) ≤ 440332
refusal_few n p h k = omega (arith, refusal_most n p (lt_of_le_of_lt h (lit≤ tt)) (lt_of_le_of_lt k (lit≤ tt)))

-- the line of a group of an accepted table: its hours have ten digits at most
row_few : {t : List ℕ} {g : ℕ} {c : Row} → Accepted t g → Group (Joined t) g c → length (row_of c.begin c.end c.members) ≤ 215
row_few {c = c} A G =
    let covers = (clique_pair G.clique).is.covers in
    let last : c.end ≤ 2147483647 = omega (arith, covers.upto, A.in_time (clique_pair G.clique).is.link covers.there) in
    let first : c.begin ≤ 2147483647 = omega (arith, G.clique.span) in
    row_in_time c.begin c.end c.members (lt_of_le_of_lt first (lit≤ tt)) (lt_of_le_of_lt last (lit≤ tt))

lines_few : {t : List ℕ} {g k : ℕ} (l : List ℕ) → Accepted t g → Complete (Joined t) g (row l) k → k ≤ 2048 → length (lines_of l k) ≤ 440332
lines_few {k = k} l A C few =
    let rows = rows_most l 215 k (λ i h. row_few A (C.holds.sound i h)) in
    omega (arith, length-append (header_of k) (rows_of l k), rows, header_size k, length_most 3 k (lt_of_le_of_lt few (lit≤ tt)))

-- the text of a table of 2,048 links at most
table_text_most : {t text : List ℕ} {g : ℕ} → count t ≤ 2048 → TableText t g text → length text ≤ 440332
table_text_most {t} {g = g} h (faulty {n} {p} d e) =
    let w = given_few (fault_first t g d).given in
    omega (arith, ap length e, refusal_few n p (omega (arith, w.0)) (omega (arith, w.1)))
table_text_most h (listed l A C k e) = omega (arith, ap length e, lines_few l A C k)
table_text_most h (too_many A C k e) = omega (arith, ap length e, refusal_few 9 0 (omega arith) (omega arith))

file_text_most : (o : Outcome) (bytes text : List ℕ) → read_of bytes 2048 ≡ o → length bytes ≤ 40960 → FileText o bytes text → length text ≤ 440332
file_text_most (accepted g n) bytes text d h w = table_text_most (omega (arith, count_numbers bytes n, told_fits bytes 2048 d)) w
file_text_most (refused n p) bytes text d h w =
    let place = refused_place bytes 2048 d in
    omega (arith, ap length w, refusal_few n p (omega (arith, place.reason)) (omega (arith, place.place)))

-- no listing is longer
pub text_most : {input text : List ℕ} → ListingText input text → length text ≤ 440332
text_most (too_long h e) = omega (arith, ap length e, refusal_few 27 0 (omega arith) (omega arith))
text_most {input} {text} (of_file h w) = file_text_most (read_of input 2048) input text refl h w

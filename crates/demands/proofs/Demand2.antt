-- Demand 2. Given room for it, the list holds a group of two or more gauges with its span exactly if it is a maximal clique as the published paper on link
-- streams with durations defines it, each once, in one stated order. In an accepted table the order of the links, or of the two gauges in a link, changes
-- nothing in the list. A written file reads back as the same links. Assumes nothing.
use mathlib.Core.Logic.{◌↔◌}
use mathlib.Core.Path.{◌≡◌, sym, ap, subst, ◌∙◌}
use mathlib.Core.List.{List}
use Prim.Native.Nat.{ℕ, ◌*◌, ◌/◌, ◌≤◌, ◌<◌}
use native.Mathlib.Omega.{arith}
use lib.ListN.{length, take}
use Rattle.links.specs.Links.{count, Joined, Accepted, Rearranged}
use Rattle.links.specs.Faults.{no_fault, fault, table_fault}
use Rattle.linkfile.specs.Numbers.{overwrite}
use Rattle.linkfile.specs.Reading.{accepted}
use Rattle.linkfile.specs.Replies.{Read, Written, Reads, Writes, fault_in, length_in}
use Rattle.linkfile.specs.Replies as File
use Rattle.linkfile.proofs.RoundTrip.{write_read}
use Rattle.cliques.specs.Groups.{Row, Group}
use Rattle.cliques.specs.Lists.{InList, Before, Complete}
use Rattle.cliques.specs.Buffers.{row, whole_rows, ListIn}
use Rattle.cliques.specs.Paper.{TwoNodes, StreamMaximal, timed}
use Rattle.groups.specs.Replies.{Listed, Listing, groups, refusal, outcome_of, refused, listed, too_many}
use Rattle.cliques.proofs.OneList.{one_length}
use Rattle.cliques.proofs.Buffers.{one_take}
use Rattle.groups.proofs.OneReply.{count_of, groups≢refusal, accepted_not, fault_same, row_maximal, maximal_row, list_rearranged}
use Rattle.cliques.proofs.TableStreams.{stream_of}

-- ---- the replies, by what the table is

-- a table with a fault is refused with it
pub given_fault : {t before after : List ℕ} {g n p : ℕ} {r : Listed} → table_fault t g ≡ fault n p → Listing t g before r after → outcome_of r ≡ refusal n p
given_fault d (refused d' e s) = e ∙ fault_same d' d
given_fault d (listed A e w) = absurd (accepted_not A d)
given_fault d (too_many A m e c) = absurd (accepted_not A d)

module _ {t : List ℕ} {g : ℕ} (A : Accepted t g) where
  -- Given room for it, the list of an accepted table is in the buffer, and the reply is its number of rows.
  pub given_room : (l : List ℕ) {k : ℕ} → 3 * k ≤ length l → Complete (Joined t) g (row l) k → {before after : List ℕ} {r : Listed} → k ≤ whole_rows before → Listing t g before r after
      → (outcome_of r ≡ groups k) × (take (3 * k) after ≡ take (3 * k) l)
  given_room l fits C h (refused d e s) = absurd (accepted_not A d)
  given_room l fits C {after = after} h (listed _ e w) =
      let same = one_length w.list C in
      (e ∙ ap groups same, ap (λ (n : ℕ). take (3 * n) after) (sym same) ∙ one_take after l w.list C (omega (arith, w.fits, w.size)) fits)
  given_room l fits C h (too_many _ m e c) = absurd (omega (arith, m.more, one_length m.list C))

  -- Without, it is refused with 9.
  pub no_room : {rows : ℕ → Row} {k : ℕ} → Complete (Joined t) g rows k → {before after : List ℕ} {r : Listed} → whole_rows before < k → Listing t g before r after → outcome_of r ≡ refusal 9 0
  no_room C h (refused d e s) = absurd (accepted_not A d)
  no_room C h (listed _ e w) = absurd (omega (arith, w.fits, one_length w.list C))
  no_room C h (too_many _ m e c) = e

-- ---- the demand

-- the buffer that an accepted list leaves
pub kept : {t before after : List ℕ} {g k : ℕ} {r : Listed} → Listing t g before r after → outcome_of r ≡ groups k → ListIn (Group (Joined t) g) before after k
kept {t} {before} {after} {g} (listed e' e w) q = subst (ListIn (Group (Joined t) g) before after) (ap count_of (sym e ∙ q)) w
kept (refused d e s) q = absurd (groups≢refusal (sym q ∙ e))
kept (too_many A m e c) q = absurd (groups≢refusal (sym q ∙ e))

module _ {t before after : List ℕ} {g k : ℕ} {r : Listed} (A : Accepted t g) (L : Listing t g before r after) (e : outcome_of r ≡ groups k) where
  -- A row is in the list exactly if its gauges, two or more, and its span are a maximal clique of the link stream of the table, as the paper defines it.
  pub exactly_the_maximal_cliques : (c : Row) → InList (row after) k c ↔ (TwoNodes (timed c) × StreamMaximal (stream_of t g A) (timed c))
  exactly_the_maximal_cliques c = (row_maximal A (kept L e), λ w. maximal_row A (kept L e) w.0 w.1)

  -- Each stands there once, by begin, then end, then members.
  pub each_once_in_order : (i j : ℕ) → i < j → j < k → Before (row after i) (row after j)
  each_once_in_order = (kept L e).list.holds.ordered

-- The order of the links, or of the two gauges in a link, changes nothing in the reply and nothing in the list.
pub order_changes_nothing : {t t' before after after' : List ℕ} {g : ℕ} {r r' : Listed} → Accepted t g → Rearranged t t'
    → Listing t g before r after → Listing t' g before r' after' → (r ≡ r') × (after ≡ after')
order_changes_nothing = list_rearranged

-- A written file, read with room for it, gives the same gauge count and the same links; what stood behind them in the lent numbers is unchanged.
pub a_written_file_reads_back : {t buffer buffer' numbers numbers' : List ℕ} {g : ℕ} {w : Written} {r : Read}
    → Writes t g buffer buffer' w → fault_in w ≡ no_fault → Reads (take (length_in w) buffer') numbers numbers' r → count t ≤ length numbers / 4
    → (File.outcome_of r ≡ accepted g (count t)) × (numbers' ≡ overwrite t numbers)
a_written_file_reads_back = write_read

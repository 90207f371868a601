-- Sets that have a pair of a graph, and sets that are worth showing: a larger set is so too, and what the walk of `has_pair` shows. Assumes nothing.
use mathlib.Core.Path.{◌≡◌, sym, subst}
use mathlib.Core.List.{List}
use Rattle.std.proofs.Math.Logic.{∥∥₁_elim}
use Rattle.std.proofs.Math.Nat.{ℕ_set}
use Prim.Native.Nat.{ℕ, ◌^◌, ◌<◌}
use native.Mathlib.Nat.{le_trans, lt_of_le_of_lt}
use lib.Bits.{bit_and}
use lib.Count.{count_trailing_zeros}
use mathlib.Core.Logic.{⊎_elim}
use Rattle.gauges.specs.Sets.{Member, Within}
use Rattle.gauges.specs.Members.{Taken}
use Rattle.gauges.proofs.Laws.{member_zero, and_in, and_left, and_right, within_le, lowest_is, ones_within}
use Rattle.sweep.specs.Near.{near, Tops, HasPair}
use Rattle.sweep.specs.Search.{Worth}
use Rattle.sweep.specs.declared.search.Sought.{Sought}

-- a set that has a pair has it in a larger set
pair_within : {g : List ℕ} {c d : ℕ} → Within c d → HasPair g c → HasPair g d
unfolding Within
pair_within w h = record { one = h.one; other = h.other; one_in = w h.one h.one_in; other_in = w h.other h.other_in; linked = h.linked }

-- a set is worth showing only if every larger one is
pub worth_within : {s : Sought} {c d : ℕ} → Within c d → Worth s c → Worth s d
worth_within {c = c} {d = d} w h =
    record { large = le_trans h.large (ones_within c d w); begun = pair_within w h.begun; ended = pair_within w h.ended }

-- ---- the walk over a set for a pair

-- what is left of the set has every gauge of it that is linked to one of it
pub record Unpaired (g : List ℕ) (set left : ℕ) : Type 0 where
  pub within : Within left set
  pub has : (i j : ℕ) → Member i set → Member j set → Member j (near g i) → Member i left

linked_in_tops : {g : List ℕ} {tops : ℕ} → ∥ Tops g tops ∥₁ → (i j : ℕ) → Member j (near g i) → Member i tops
unfolding Member
linked_in_tops t i j l = ∥∥₁_elim t (ℕ_set _ _) (λ w. w.has i j l)

-- at first those of the set that are linked at all are left
pub unpaired_start : {g : List ℕ} {tops : ℕ} (set : ℕ) → ∥ Tops g tops ∥₁ → Unpaired g set (bit_and set tops)
unfolding Within
unpaired_start {tops = tops} set t =
    record { within = λ k h. and_left set tops k h; has = λ i j x y l. and_in set tops i x (linked_in_tops t i j l) }

-- where none is left there is no pair
pub unpaired_end : {g : List ℕ} {set left : ℕ} → Unpaired g set left → left ≡ 0 → HasPair g set → ⊥
unpaired_end u e h = member_zero h.one (subst (Member h.one) e (u.has h.one h.other h.one_in h.other_in h.linked))

-- a turn at the lowest gauge v that is left, where n is the set of the gauges that v is linked to
module _ {g : List ℕ} {set left v left' n : ℕ} (u : Unpaired g set left) (fits : set < 2 ^ 64) (T : Taken left v left') (e : n ≡ near g v) where
  -- one of them is in the set
  pub unpaired_hit : (bit_and n set ≡ 0 → ⊥) → HasPair g set
  unfolding Within
  unpaired_hit f =
      let m = bit_and n set in
      let other : Member (count_trailing_zeros 64 m) m = (lowest_is m (lt_of_le_of_lt (within_le m set (and_right n set)) fits)).there f in
      record {
        one = v;
        other = count_trailing_zeros 64 m;
        one_in = u.within v T.there;
        other_in = and_right n set (count_trailing_zeros 64 m) other;
        linked = subst (Member (count_trailing_zeros 64 m)) e (and_left n set (count_trailing_zeros 64 m) other);
      }

  -- none of them is, and v is passed
  pub unpaired_next : bit_and n set ≡ 0 → Unpaired g set left'
  unfolding Within
  unpaired_next z =
      record {
        within = λ k h. u.within k (T.still k h);
        has = λ i j x y h. ⊎_elim
            (λ a. absurd (member_zero j (subst (Member j) z (and_in n set j (subst (Member j) (sym e) (subst (λ (w : ℕ). Member j (near g w)) a h)) y))))
            (λ m. m)
            (T.kept i (u.has i j x y h));
      }

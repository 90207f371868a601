-- The five useless builds of document 01: none of them keeps the promise of the list. Each is shut out by one small table. Assumes nothing.
use mathlib.Core.Path.{◌≡◌, refl, sym, ap, ◌∙◌}
use mathlib.Core.List.{List, [], ◌∷◌}
use Prim.Native.Nat.{ℕ, ◌<◌}
use native.Mathlib.Omega.{arith}
use lib.ListN.{get_or, take}
use Rattle.links.specs.Links.{Joined, Accepted}
use Rattle.cliques.specs.Groups.{Row, Group}
use Rattle.cliques.specs.Lists.{InList, Complete}
use Rattle.cliques.specs.Buffers.{row}
use Rattle.groups.specs.Replies.{groups, refusal, outcome_of}
use Rattle.cliques.proofs.OneList.{one_length}
use Rattle.cliques.proofs.Order.{before_differ}
use Rattle.groups.proofs.OneReply.{groups≢refusal}
use Rattle.demands.specs.Builds.{Build, Keeps}
use Rattle.demands.specs.Cases.{rows}
use Rattle.demands.proofs.Demand2.{each_once_in_order, kept}
use Rattle.demands.proofs.CasesHold.{passes, passes_says}

-- P2 of document 01, one link from hour 4 to hour 4, and a buffer of one row of zeros
abbrev P2 : List ℕ
P2 = 4 ∷ 4 ∷ 0 ∷ 1 ∷ []

abbrev zeros : List ℕ
zeros = 0 ∷ 0 ∷ 0 ∷ []

module _ {b : Build} (K : Keeps b) where
  -- the promise at P2: one group, 4 4 3
  at_P2 : (outcome_of (b.reply P2 4 zeros) ≡ groups 1) × (take 3 (b.buffer P2 4 zeros) ≡ 4 ∷ 4 ∷ 3 ∷ [])
  unfolding passes
  at_P2 = passes_says (rows P2 4 1 (4 ∷ 4 ∷ 3 ∷ [])) refl zeros (b.buffer P2 4 zeros) (b.reply P2 4 zeros) refl (K.promise P2 4 zeros)

  -- 1. one that refuses everything
  pub no_refuser : ((t : List ℕ) (g : ℕ) (before : List ℕ) → (n : ℕ) × (p : ℕ) × (outcome_of (b.reply t g before) ≡ refusal n p)) → ⊥
  no_refuser f = let w = f P2 4 zeros in groups≢refusal (sym at_P2.0 ∙ w.2)

  -- 2. one that always lists nothing
  pub no_empty_list : ((t : List ℕ) (g : ℕ) (before : List ℕ) → outcome_of (b.reply t g before) ≡ groups 0) → ⊥
  no_empty_list f = let s = sym at_P2.0 ∙ f P2 4 zeros in let z : ◌≡◌ {A = ℕ} 1 0 = cc in omega arith

  -- 3. one that answers k and writes no row
  pub no_blank_rows : ((t : List ℕ) (g : ℕ) (before : List ℕ) → b.buffer t g before ≡ before) → ⊥
  no_blank_rows f =
      let s : get_or (take 3 zeros) 0 0 ≡ 4 = ap (λ (l : List ℕ). get_or (take 3 l) 0 0) (sym (f P2 4 zeros)) ∙ ap (λ (l : List ℕ). get_or l 0 0) at_P2.1 in
      omega arith

  module _ (t before : List ℕ) {g k : ℕ} (A : Accepted t g) (e : outcome_of (b.reply t g before) ≡ groups k) where
    -- 4. one that does the groups of the earliest begin and copies a filler row for later ones: a row of the list is a group, and none stands there twice
    pub no_filler_row : (i : ℕ) → i < k → Group (Joined t) g (row (b.buffer t g before) i)
    no_filler_row = (kept (K.promise t g before) e).list.holds.sound

    pub no_copied_row : (i j : ℕ) → i < j → j < k → row (b.buffer t g before) i ≡ row (b.buffer t g before) j → ⊥
    no_copied_row i j h l = before_differ (each_once_in_order A (K.promise t g before) e i j h l)

    -- and every group is there, those of later begins too
    pub none_left_out : (c : Row) → Group (Joined t) g c → InList (row (b.buffer t g before)) k c
    none_left_out = (kept (K.promise t g before) e).list.complete

    -- 5. one whose k isn't the number of groups
    pub right_count : {rows : ℕ → Row} {n : ℕ} → Complete (Joined t) g rows n → k ≡ n
    right_count C = one_length (kept (K.promise t g before) e).list C

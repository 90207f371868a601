-- A set of rows has one list: two of them have the same length and the same rows. No list of rows of the set is longer. Assumes nothing.
use mathlib.Core.Path.{◌≡◌, sym, ap, subst, subst₂, ◌∙◌}
use mathlib.Core.Logic.{dite}
use Prim.Native.Nat.{ℕ, zero, suc, ◌+◌, ◌-◌, ◌≤◌, ◌<◌}
use native.Mathlib.Decide.{ℕ_discrete, dec_le}
use native.Mathlib.Omega.{arith}
use Rattle.cliques.specs.Groups.{Row}
use Rattle.cliques.specs.Lists.{InList, Before, Holds, Listed}
use Rattle.cliques.proofs.Order.{before_asym, before_differ}

-- the first k rows of f stand in order, no two of them equal
pub record Rising (f : ℕ → Row) (k : ℕ) : Type 0 where
  pub ordered : (i j : ℕ) → i < j → j < k → Before (f i) (f j)

-- each of the first k rows of f is one of the first k' of f'
pub record Included (f : ℕ → Row) (k : ℕ) (f' : ℕ → Row) (k' : ℕ) : Type 0 where
  pub find : (i : ℕ) → i < k → (j : ℕ) × (j < k') × (f' j ≡ f i)

module _ {f : ℕ → Row} {k : ℕ} (R : Rising f k) where
  -- in such rows, one that stands before another has the smaller place
  place_lt : (i j : ℕ) → i < k → Before (f i) (f j) → i < j
  place_lt i j h p = dite (dec_le j i)
      (λ l. dite (ℕ_discrete j i) (λ e. absurd (before_differ p (ap f (sym e)))) (λ n. absurd (before_asym p (R.ordered j i (omega arith) h))))
      (λ l. omega arith)

  -- and equal rows have one place
  place_one : (i j : ℕ) → i < k → j < k → f i ≡ f j → i ≡ j
  place_one i j h l e = dite (dec_le j i)
      (λ m. dite (ℕ_discrete j i) sym (λ n. absurd (before_differ (R.ordered j i (omega arith) h) (sym e))))
      (λ m. absurd (before_differ (R.ordered i j (omega arith) l) e))

module _ {f f' : ℕ → Row} {k k' : ℕ} (R : Rising f k) (R' : Rising f' k') (C : Included f k f' k') where
  -- the places among the others are no smaller
  place_le : (i : ℕ) (h : i < k) → i ≤ (C.find i h).0
  place_le zero h = omega arith
  place_le (suc i) h =
      let l : i < k = omega arith in
      let v = C.find i l in
      let w = C.find (suc i) h in
      let p : Before (f' v.0) (f' w.0) = subst₂ Before (sym v.2) (sym w.2) (R.ordered i (suc i) (omega arith) h) in
      omega (arith, place_le i l, place_lt R' v.0 w.0 v.1 p)

  -- nor so large that the rest would not fit behind
  place_up : (d i : ℕ) (h : i < k) → i + suc d ≡ k → (C.find i h).0 + suc d ≤ k'
  place_up zero i h e = omega (arith, (C.find i h).1)
  place_up (suc d) i h e =
      let l : suc i < k = omega arith in
      let v = C.find i h in
      let w = C.find (suc i) l in
      let p : Before (f' v.0) (f' w.0) = subst₂ Before (sym v.2) (sym w.2) (R.ordered i (suc i) (omega arith) l) in
      omega (arith, place_up d (suc i) l (omega arith), place_lt R' v.0 w.0 v.1 p)

  -- so as many rows as the others are all of the others
  included_all : k ≡ k' → (i : ℕ) → i < k → f' i ≡ f i
  included_all e i h =
      let v = C.find i h in
      let here : v.0 ≡ i = omega (arith, place_le i h, place_up (k - suc i) i h (omega arith)) in
      ap f' (sym here) ∙ v.2

-- rows in order that are all among others in order are no more than those
pub included_le : {f f' : ℕ → Row} {k k' : ℕ} → Rising f k → Rising f' k' → Included f k f' k' → k ≤ k'
included_le {k = zero} R R' C = omega arith
included_le {k = suc n} R R' C = let l : n < suc n = omega arith in omega (arith, place_le R R' C n l, (C.find n l).1)

-- two rows in order that are all among each other are the same
pub included_same : {f f' : ℕ → Row} {k k' : ℕ} → Rising f k → Rising f' k' → Included f k f' k' → Included f' k' f k → (i : ℕ) → i < k → f i ≡ f' i
included_same {f' = f'} R R' C C' i h =
    let v = C.find i h in
    let w = C'.find v.0 v.1 in
    let back = place_one R w.0 i w.1 h (w.2 ∙ v.2) in
    let same : v.0 ≡ i = omega (arith, place_le R R' C i h, place_le R' R C' v.0 v.1, back) in
    sym v.2 ∙ ap f' same

-- a list of rows of a set is rising
holds_rising : {P : Row → Type 0} {f : ℕ → Row} {k : ℕ} → Holds P f k → Rising f k
holds_rising H = record { ordered = H.ordered }

module _ {P : Row → Type 0} {f f' : ℕ → Row} {k k' : ℕ} where
  -- every list of rows of a set is included in the list of the set
  listed_includes : Holds P f k → Listed P f' k' → Included f k f' k'
  listed_includes H C = record { find = λ i h. C.complete (f i) (H.sound i h) }

  -- it is no longer than that list
  pub not_longer : Holds P f k → Listed P f' k' → k ≤ k'
  not_longer H C = included_le (holds_rising H) (holds_rising C.holds) (listed_includes H C)

  -- if it lacks a row of the set, it is shorter
  pub shorter : Holds P f k → (c : Row) → P c → (InList f k c → ⊥) → Listed P f' k' → k < k'
  shorter H c G n C = dite (dec_le k' k)
      (λ h.
      let same : k ≡ k' = omega (arith, not_longer H C) in
      let w = C.complete c G in
      let i : w.0 < k = omega (arith, w.1) in
      absurd (n (w.0, i, sym (included_all (holds_rising H) (holds_rising C.holds) (listed_includes H C) same w.0 i) ∙ w.2)))
      (λ h. omega arith)

module _ {P : Row → Type 0} {f f' : ℕ → Row} {k k' : ℕ} (C : Listed P f k) (C' : Listed P f' k') where
  -- two lists of one set have the same length
  pub one_length : k ≡ k'
  one_length = omega (arith, not_longer C.holds C', not_longer C'.holds C)

  -- and the same rows
  pub one_list : (i : ℕ) → i < k → f i ≡ f' i
  one_list = included_same (holds_rising C.holds) (holds_rising C'.holds) (listed_includes C.holds C') (listed_includes C'.holds C)

-- the rows of a list are of its set; its field `complete` is the converse
pub listed_sound : {P : Row → Type 0} {f : ℕ → Row} {k : ℕ} {c : Row} → Listed P f k → InList f k c → P c
listed_sound {P} C s = subst P s.2 (C.holds.sound s.0 s.1)

-- sets with the same rows have the same list
pub listed_as : {P Q : Row → Type 0} {f : ℕ → Row} {k : ℕ} → ((c : Row) → P c → Q c) → ((c : Row) → Q c → P c) → Listed P f k → Listed Q f k
listed_as {f = f} to from C =
    record { holds = record { ordered = C.holds.ordered; sound = λ i h. to (f i) (C.holds.sound i h) }; complete = λ c q. C.complete c (from c q) }

-- a list is one wherever its rows stand
pub listed_at : {P : Row → Type 0} {f f' : ℕ → Row} {k : ℕ} → ((i : ℕ) → i < k → f i ≡ f' i) → Listed P f k → Listed P f' k
listed_at {P} {f} {f'} e C =
    record {
      holds = record {
        ordered = λ i j h l. subst₂ Before (e i (omega arith)) (e j l) (C.holds.ordered i j h l);
        sound = λ i h. subst P (e i h) (C.holds.sound i h);
      };
      complete = λ c p. let w = C.complete c p in (w.0, w.1, sym (e w.0 w.1) ∙ w.2);
    }

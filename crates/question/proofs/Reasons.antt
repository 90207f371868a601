-- Reasons 1 to 8, 10, 11 and 12: the fault of a question is the first reason that document 01 gives, with its place, and there is none exactly if the table is accepted,
-- the members are known gauges, two at least, and the begin is not after the end. Assumes nothing.
use mathlib.Core.Bool.{Bool, true, false}
use mathlib.Core.Logic.{inl, inr, ⊎_elim, dite}
use mathlib.Core.Path.{◌≡◌, refl, sym, ap, subst₂, ◌∙◌}
use mathlib.Core.List.{List}
use Prim.Native.Nat.{ℕ, zero, suc, ◌-◌, ◌^◌, ◌≤◌, ◌<◌}
use native.Mathlib.Decide.{ℕ_discrete, dec_le, dec_lt}
use native.Mathlib.Nat.{pow-suc}
use native.Mathlib.Omega.{arith}
use lib.Bits.{bit_and, and_lt}
use lib.Count.{ones, count_trailing_zeros}
use lib.Dec.{leb, ltb}
use lib.ListN.{get_or}
use lib.Pow.{ones_sub-lt}
use Rattle.gauges.specs.Flags.{Tells}
use Rattle.gauges.specs.Sets.{Member, Below}
use Rattle.gauges.proofs.Flags.{tells_lt, tells_le, tells_as, told_true, told_false}
use Rattle.gauges.proofs.Bounded.{implied, all_or_some}
use Rattle.gauges.proofs.Laws.{member_dec, member_lt, lowest_is, without_in, without_left, without_right}
use Rattle.links.specs.Links.{Accepted}
use Rattle.links.specs.Turns.{reasons, turn_in, turn}
use Rattle.links.specs.Faults.{Given as TableGiven, Fault, no_fault, fault, if_so, ◌or_else◌, table_fault}
use Rattle.links.proofs.Reasons.{fault≢no_fault, reason_of, place_of, given_turns, first_one as table-one, fault_first, no_fault_given, no_fault_accepted, accepted_no_fault}
use Rattle.cliques.proofs.Members.{known_lt}
use Rattle.question.specs.Refusals.{Given, of_table, unknown_member, few_members, backward, First, question_fault}
use Rattle.question.proofs.Rests.{none_left}

-- ---- the tests tell

-- 10, 11 and 12 are tried after 8, the last reason of a table
late_10 : turn 8 < turn 10
unfolding turn_in
late_10 = omega arith

late_11 : turn 8 < turn 11
unfolding turn_in
late_11 = omega arith

late_12 : turn 8 < turn 12
unfolding turn_in
late_12 = omega arith

-- so they are none of a table's own
not_late : {t : List ℕ} {g n p : ℕ} → turn 8 < turn n → TableGiven t g n p → ⊥
not_late l w = omega (arith, given_turns w)

below_power : (n : ℕ) → n < 2 ^ n
below_power zero = omega arith
below_power (suc n) = omega (arith, pow-suc 2 n, below_power n)

module _ (t : List ℕ) (g m x y : ℕ) where
  -- a number of 2 ^ g or more is a set with a gauge at or above g
  tells_10 : Tells (leb (2 ^ g) m) (Given t g m x y 10 0)
  tells_10 = tells_as to from (tells_le (2 ^ g) m)
    where
      to : 2 ^ g ≤ m → Given t g m x y 10 0
      to h = ⊎_elim
          (λ all. absurd (omega (arith, known_lt m g (λ k p. all k (member_lt k m m (below_power m) p) p))))
          (λ s. unknown_member s.holds.0 (let f = s.holds.1 in dite (dec_le g s.number) (λ l. l) (λ l. absurd (f (omega arith)))))
          (all_or_some (λ k. implied (member_dec k m) (dec_lt k g)) m)

      from : Given t g m x y 10 0 → 2 ^ g ≤ m
      from (of_table w) = absurd (not_late late_10 w)
      from (unknown_member {k = k} p l) = dite (dec_le (2 ^ g) m) (λ h. h) (λ h. absurd (omega (arith, member_lt k m g (omega arith) p)))

  tells_11 : Tells (ltb (ones m) 2) (Given t g m x y 11 0)
  tells_11 = tells_as few_members from (tells_lt (ones m) 2)
    where
      from : Given t g m x y 11 0 → ones m < 2
      from (of_table w) = absurd (not_late late_11 w)
      from (few_members h) = h

  tells_12 : Tells (ltb y x) (Given t g m x y 12 0)
  tells_12 = tells_as backward from (tells_lt y x)
    where
      from : Given t g m x y 12 0 → y < x
      from (of_table w) = absurd (not_late late_12 w)
      from (backward h) = h

  -- ---- in the order of trying

  -- a reason that is tried after 8 is 10, 11 or 12, which have place 0
  late_place : {n p : ℕ} → turn 8 < turn n → Given t g m x y n p → (p ≡ 0) × (get_or reasons (turn n) 0 ≡ n) × (turn n ≤ turn 12)
  unfolding turn_in
  late_place l (of_table w) = absurd (not_late l w)
  late_place l (unknown_member p h) = (refl, refl, omega arith)
  late_place l (few_members h) = (refl, refl, omega arith)
  late_place l (backward h) = (refl, refl, omega arith)

  -- any other is one of the table's
  early_table : {n p : ℕ} → turn n ≤ turn 8 → Given t g m x y n p → TableGiven t g n p
  unfolding turn_in
  early_table l (of_table w) = w
  early_table l (unknown_member p h) = absurd (omega arith)
  early_table l (few_members h) = absurd (omega arith)
  early_table l (backward h) = absurd (omega arith)

  -- f is what trying everything before turn k finds
  pub data Tried (f : Fault) (k : ℕ) : Type 0 where
    passed : f ≡ no_fault → ((n' p' : ℕ) → turn n' < k → Given t g m x y n' p' → ⊥) → Tried f k
    stopped : {n' p' : ℕ} → f ≡ fault n' p' → First t g m x y n' p' → Tried f k

  try_table : Tried (table_fault t g) (suc (turn 8))
  try_table = go (table_fault t g) refl
    where
      go : (f : Fault) → table_fault t g ≡ f → Tried (table_fault t g) (suc (turn 8))
      go no_fault e = passed e (λ n' p' l w. no_fault_given t g e n' p' (early_table (omega arith) w))
      go (fault n p) e =
          let F = fault_first t g e in
          stopped e (record {
            given = of_table F.given;
            first = λ n' p' s w. ⊎_elim
                (λ k. F.first n' p' k.2 (early_table k.0 w))
                (λ k. omega (arith, k.0, given_turns F.given))
                s;
          })

  -- reason n, which comes after 8, is tried in its turn
  try_next : {f : Fault} {n : ℕ} → get_or reasons (turn n) 0 ≡ n → turn 8 < turn n → Tried f (turn n) → {b : Bool} → Tells b (Given t g m x y n 0) → Tried (f or_else if_so b n 0) (suc (turn n))
  try_next {n = n} here l (passed e c) {b = true} w =
      stopped (ap (λ (z : Fault). z or_else fault n 0) e)
      (record { given = w.holds refl; first = λ n' p' s v. ⊎_elim (λ k. omega (arith, k.1)) (λ k. c n' p' k.1 v) s })
  try_next {n = n} here l (passed e c) {b = false} w =
      passed (ap (λ (z : Fault). z or_else no_fault) e)
      (λ n' p' h v. dite (ℕ_discrete (turn n') (turn n))
      (λ d. let o = late_place (omega arith) v in
      w.fails refl (subst₂ (Given t g m x y) (sym o.1 ∙ ap (λ (k : ℕ). get_or reasons k 0) d ∙ here) o.0 v))
      (λ d. c n' p' (omega arith) v))
  try_next {n = n} here l (stopped e F) {b = b} w = stopped (ap (λ (z : Fault). z or_else if_so b n 0) e) F

  try_question : Tried (question_fault t g m x y) (suc (turn 12))
  unfolding question_fault turn_in
  try_question =
      let s10 = try_next {n = 10} refl late_10 try_table tells_10 in
      let s11 = try_next {n = 11} refl late_11 s10 tells_11 in
      try_next {n = 12} refl late_12 s11 tells_12

  -- the last turn is that of 12
  last_turn : {n p : ℕ} → Given t g m x y n p → turn n < suc (turn 12)
  unfolding turn_in
  last_turn (of_table w) = omega (arith, given_turns w)
  last_turn (unknown_member p h) = omega arith
  last_turn (few_members h) = omega arith
  last_turn (backward h) = omega arith

  -- no two reasons are both the first
  first_one : {n p n' p' : ℕ} → First t g m x y n p → First t g m x y n' p' → (n ≡ n') × (p ≡ p')
  first_one {n} {p} {n'} {p'} a b =
      dite (dec_lt (turn 8) (turn n))
      (λ h. dite (ℕ_discrete (turn n) (turn n'))
      (λ e.
      let u = late_place h a.given in
      let v = late_place (omega arith) b.given in
      (sym u.1 ∙ ap (λ (k : ℕ). get_or reasons k 0) e ∙ v.1, u.0 ∙ sym v.0))
      (λ d. dite (dec_lt (turn n') (turn n))
      (λ l. absurd (a.first n' p' (inr (h, l)) b.given))
      (λ l. absurd (b.first n p (inr (omega arith, omega arith)) a.given))))
      (λ h. dite (dec_lt (turn 8) (turn n'))
      (λ h'. absurd (b.first n p (inr (h', omega arith)) a.given))
      (λ h'. both (omega arith) (omega arith)))
    where
      both : turn n ≤ turn 8 → turn n' ≤ turn 8 → (n ≡ n') × (p ≡ p')
      both k k' =
          table-one
          (record { given = early_table k a.given; first = λ q r s w. a.first q r (inl (given_turns w, k, s)) (of_table w) })
          (record { given = early_table k' b.given; first = λ q r s w. b.first q r (inl (given_turns w, k', s)) (of_table w) })

  -- ---- the theorems

  -- a question's fault is a reason, with a place, exactly if that is the first that document 01 gives
  pub refusal_first : {n p : ℕ} → question_fault t g m x y ≡ fault n p → First t g m x y n p
  refusal_first {n} {p} e = go try_question
    where
      go : Tried (question_fault t g m x y) (suc (turn 12)) → First t g m x y n p
      go (passed d c) = absurd (fault≢no_fault (sym e ∙ d))
      go (stopped d F) = subst₂ (First t g m x y) (ap reason_of (sym d ∙ e)) (ap place_of (sym d ∙ e)) F

  pub first_refusal : {n p : ℕ} → First t g m x y n p → question_fault t g m x y ≡ fault n p
  first_refusal {n} {p} F = go try_question
    where
      go : Tried (question_fault t g m x y) (suc (turn 12)) → question_fault t g m x y ≡ fault n p
      go (passed e c) = absurd (c n p (last_turn F.given) F.given)
      go (stopped e G) = let s = first_one G F in e ∙ (λ i. fault (s.0 i) (s.1 i))

  -- it is none exactly if no reason is given
  pub no_refusal_given : question_fault t g m x y ≡ no_fault → (n p : ℕ) → Given t g m x y n p → ⊥
  no_refusal_given e = go try_question
    where
      go : Tried (question_fault t g m x y) (suc (turn 12)) → (n p : ℕ) → Given t g m x y n p → ⊥
      go (passed d c) = λ n p w. c n p (last_turn w) w
      go (stopped d F) = absurd (fault≢no_fault (sym d ∙ e))

  pub none_given : ((n p : ℕ) → Given t g m x y n p → ⊥) → question_fault t g m x y ≡ no_fault
  none_given f = go try_question
    where
      go : Tried (question_fault t g m x y) (suc (turn 12)) → question_fault t g m x y ≡ no_fault
      go (passed e c) = e
      go (stopped {n'} {p'} e F) = absurd (f n' p' F.given)

-- a question that is not refused
pub record Sound (t : List ℕ) (g m x y : ℕ) : Type 0 where
  pub accepted : Accepted t g
  pub known : (k : ℕ) → Member k m → k < g
  pub two : 2 ≤ ones m
  pub span : x ≤ y

-- there is no fault exactly if the question is sound
pub no_fault_sound : {t : List ℕ} {g m x y : ℕ} → question_fault t g m x y ≡ no_fault → Sound t g m x y
no_fault_sound {t} {g} {m} {x} {y} e =
    record {
      accepted = no_fault_accepted t g (table_clear (table_fault t g) refl);
      known = λ k h. dite (dec_lt k g) (λ l. l) (λ l. absurd (f 10 0 (unknown_member h (omega arith))));
      two = dite (dec_le 2 (ones m)) (λ l. l) (λ l. absurd (f 11 0 (few_members (omega arith))));
      span = dite (dec_le x y) (λ l. l) (λ l. absurd (f 12 0 (backward (omega arith))));
    }
  where
    f : (n p : ℕ) → Given t g m x y n p → ⊥
    f = no_refusal_given t g m x y e

    table_clear : (h : Fault) → table_fault t g ≡ h → table_fault t g ≡ no_fault
    table_clear no_fault d = d
    table_clear (fault n p) d = absurd (f n p (of_table (fault_first t g d).given))

pub sound_no_fault : {t : List ℕ} {g m x y : ℕ} → Sound t g m x y → question_fault t g m x y ≡ no_fault
sound_no_fault {t} {g} {m} {x} {y} S = none_given t g m x y none
  where
    none : (n p : ℕ) → Given t g m x y n p → ⊥
    none n p (of_table w) = no_fault_given t g (accepted_no_fault t g S.accepted) n p w
    none n p (unknown_member {k = k} h l) = omega (arith, S.known k h)
    none n p (few_members h) = omega (arith, S.two)
    none n p (backward h) = omega (arith, S.span)

-- ---- each way out of the code

-- the members that are not below g, as the code finds them
module _ {g m b : ℕ} (B : Below g b) (m-fits : m < 2 ^ 64) (b-fits : b < 2 ^ 64) where
  pub past_known : bit_and m ((2 ^ 64 - 1) - b) ≡ 0 → (k : ℕ) → Member k m → k < g
  past_known e k h =
      dite (dec_lt k g) (λ l. l) (λ l. absurd (none_left e k (without_in m b k 64 m-fits b-fits h (λ p. omega (arith, (B.just k p).0)))))

  pub past_given : (t : List ℕ) (x y : ℕ) → (bit_and m ((2 ^ 64 - 1) - b) ≡ 0 → ⊥) → Given t g m x y 10 0
  past_given t x y f =
      let n = bit_and m ((2 ^ 64 - 1) - b) in
      let k = count_trailing_zeros 64 n in
      let h = (lowest_is n (and_lt 64 m ((2 ^ 64 - 1) - b) m-fits (ones_sub-lt 64 b))).there f in
      let p = without_left m b k 64 h in
      unknown_member p (dite (dec_le g k) (λ l. l) (λ l. absurd (without_right m b k 64 b-fits h (B.each k (omega arith) (member_lt k m 64 m-fits p)))))

module _ (t : List ℕ) (g m x y : ℕ) where
  pub question_table : {n p : ℕ} → table_fault t g ≡ fault n p → question_fault t g m x y ≡ fault n p
  unfolding question_fault
  question_table e = rw e

  module _ (clear : table_fault t g ≡ no_fault) where
    pub question_10 : Given t g m x y 10 0 → question_fault t g m x y ≡ fault 10 0
    unfolding question_fault
    question_10 h = rw (clear, told_true (tells_10 t g m x y) h)

    module _ (known : (k : ℕ) → Member k m → k < g) where
      small : leb (2 ^ g) m ≡ false
      small = told_false (tells_le (2 ^ g) m) (λ h. omega (arith, known_lt m g known))

      pub question_11 : ones m < 2 → question_fault t g m x y ≡ fault 11 0
      unfolding question_fault
      question_11 h = rw (clear, small, told_true (tells_lt (ones m) 2) h)

      module _ (two : 2 ≤ ones m) where
        pub question_12 : y < x → question_fault t g m x y ≡ fault 12 0
        unfolding question_fault
        question_12 h = rw (clear, small, told_false (tells_lt (ones m) 2) (λ l. omega arith), told_true (tells_lt y x) h)

        pub question_none : x ≤ y → question_fault t g m x y ≡ no_fault
        unfolding question_fault
        question_none h = rw (clear, small, told_false (tells_lt (ones m) 2) (λ l. omega arith), told_false (tells_lt y x) (λ l. omega arith))

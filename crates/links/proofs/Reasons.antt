-- Reasons 1 to 8: the fault of a table is the first reason that document 01 gives, with its place, and there is none exactly if the table is accepted.
-- Assumes nothing.
use mathlib.Core.Bool.{Bool, true, false, ◌||◌}
use mathlib.Core.Logic.{◌⊎◌, inl, inr, ⊎_elim, dite}
use mathlib.Core.Path.{◌≡◌, refl, sym, ap, subst, subst₂, ◌∙◌}
use mathlib.Core.List.{List}
use Prim.Native.Nat.{ℕ, zero, suc, ◌%◌, ◌≤◌, ◌<◌}
use native.Mathlib.Decide.{ℕ_discrete, dec_le}
use native.Mathlib.Omega.{arith}
use lib.Dec.{leb, ltb, eqb}
use lib.ListN.{length, get_or}
use Rattle.gauges.specs.Flags.{Tells}
use Rattle.gauges.proofs.Flags.{tells_lt, tells_le, tells_eq, tells_or, tells_as, tells_no}
use Rattle.gauges.proofs.Bounded.{Some}
use Rattle.links.specs.Turns.{reasons, turn_in, turn}
use Rattle.links.specs.Links.{count, begins, ends, one, other, Clash, Accepted}
use Rattle.links.specs.Faults.{Given, not_fours, too_many, no_gauge, many_gauges, unknown_one, unknown_other, same_gauge, backward, too_late, shared, First, Fault, no_fault, fault, if_so, ◌or_else◌, clash_below, link_fault, links_fault, head_fault, table_fault}
use Rattle.links.proofs.Pairs.{tells_clash, clash_sym}

-- ---- the tests tell

-- one of the links below n clashes with link i
abbrev ClashBelow : List ℕ → ℕ → ℕ → Type 0
ClashBelow t i n = Some (λ (j : ℕ). Clash t j i) n

pub tells_clash_below : (t : List ℕ) (i n : ℕ) → Tells (clash_below t i n) (ClashBelow t i n)
unfolding clash_below
tells_clash_below t i zero = tells_no (λ s. omega (arith, s.below))
tells_clash_below t i (suc n) = tells_as
    (⊎_elim
    (λ s. record { number = s.number; below = omega (arith, s.below); holds = s.holds })
    (λ c. record { number = n; below = omega arith; holds = c }))
    (λ s. dite (ℕ_discrete s.number n)
    (λ e. inr (subst (λ (j : ℕ). Clash t j i) e s.holds))
    (λ d. inl (record { number = s.number; below = omega (arith, s.below); holds = s.holds })))
    (tells_or (tells_clash_below t i n) (tells_clash t n i))

module _ (t : List ℕ) (g : ℕ) where
  tells_1 : Tells (ltb 0 (length t % 4)) (Given t g 1 0)
  tells_1 = tells_as (λ h. not_fours (λ e. omega arith)) from (tells_lt 0 (length t % 4))
    where
      from : Given t g 1 0 → 0 < length t % 4
      from (not_fours f) = omega arith

  tells_2 : Tells (ltb 2048 (count t)) (Given t g 2 0)
  tells_2 = tells_as too_many from (tells_lt 2048 (count t))
    where
      from : Given t g 2 0 → 2048 < count t
      from (too_many h) = h

  tells_3 : Tells (eqb g 0 || ltb 64 g) (Given t g 3 0)
  tells_3 = tells_as (⊎_elim no_gauge many_gauges) from (tells_or (tells_eq g 0) (tells_lt 64 g))
    where
      from : Given t g 3 0 → (g ≡ 0) ⊎ (64 < g)
      from (no_gauge e) = inl e
      from (many_gauges h) = inr h

  module _ (i : ℕ) (there : i < count t) where
    tells_4 : Tells (leb g (one t i) || leb g (other t i)) (Given t g 4 i)
    tells_4 = tells_as (⊎_elim (unknown_one there) (unknown_other there)) from (tells_or (tells_le g (one t i)) (tells_le g (other t i)))
      where
        from : Given t g 4 i → (g ≤ one t i) ⊎ (g ≤ other t i)
        from (unknown_one l h) = inl h
        from (unknown_other l h) = inr h

    tells_5 : Tells (eqb (one t i) (other t i)) (Given t g 5 i)
    tells_5 = tells_as (same_gauge there) from (tells_eq (one t i) (other t i))
      where
        from : Given t g 5 i → one t i ≡ other t i
        from (same_gauge l e) = e

    tells_6 : Tells (ltb (ends t i) (begins t i)) (Given t g 6 i)
    tells_6 = tells_as (backward there) from (tells_lt (ends t i) (begins t i))
      where
        from : Given t g 6 i → ends t i < begins t i
        from (backward l h) = h

    tells_7 : Tells (ltb 2147483647 (ends t i)) (Given t g 7 i)
    tells_7 = tells_as (too_late there) from (tells_lt 2147483647 (ends t i))
      where
        from : Given t g 7 i → 2147483647 < ends t i
        from (too_late l h) = h

    tells_8 : Tells (clash_below t i i) (Given t g 8 i)
    tells_8 = tells_as (λ s. shared there s.below s.holds) from (tells_clash_below t i i)
      where
        from : Given t g 8 i → ClashBelow t i i
        from (shared {j = j} l h c) = record { number = j; below = h; holds = c }

-- ---- faults, taken apart

abbrev pub reason_of : Fault → ℕ
reason_of no_fault = 0
reason_of (fault n p) = n

abbrev pub place_of : Fault → ℕ
place_of no_fault = 0
place_of (fault n p) = p

pub fault≢no_fault : {n p : ℕ} → fault n p ≡ no_fault → ⊥
fault≢no_fault e = let z : ◌≡◌ {A = ℕ} 0 1 = cc in omega arith

-- ---- turns

-- a link is tried for 4 before it is tried for 8
link_turns : turn 4 < turn 8
unfolding turn_in
link_turns = omega arith

-- ---- in the order of trying

module _ {t : List ℕ} {g : ℕ} where
  -- the reason of a turn: that of a reason that is given leads back to it
  given_turn : {n p : ℕ} → Given t g n p → get_or reasons (turn n) 0 ≡ n
  unfolding turn_in
  given_turn (not_fours f) = refl
  given_turn (too_many h) = refl
  given_turn (no_gauge h) = refl
  given_turn (many_gauges h) = refl
  given_turn (unknown_one l h) = refl
  given_turn (unknown_other l h) = refl
  given_turn (same_gauge l h) = refl
  given_turn (backward l h) = refl
  given_turn (too_late l h) = refl
  given_turn (shared l h c) = refl

  -- the reasons of the table as a whole are tried before 4, and have place 0; those of a link from 4 to 8
  given_where : {n p : ℕ} → Given t g n p → ((turn n < turn 4) × (p ≡ 0)) ⊎ ((turn 4 ≤ turn n) × (turn n ≤ turn 8) × (p < count t))
  unfolding turn_in
  given_where (not_fours f) = inl (omega arith, refl)
  given_where (too_many h) = inl (omega arith, refl)
  given_where (no_gauge h) = inl (omega arith, refl)
  given_where (many_gauges h) = inl (omega arith, refl)
  given_where (unknown_one l h) = inr (omega arith, omega arith, l)
  given_where (unknown_other l h) = inr (omega arith, omega arith, l)
  given_where (same_gauge l h) = inr (omega arith, omega arith, l)
  given_where (backward l h) = inr (omega arith, omega arith, l)
  given_where (too_late l h) = inr (omega arith, omega arith, l)
  given_where (shared l h c) = inr (omega arith, omega arith, l)

  -- a table's reasons are numbered up to 8
  pub given_few : {n p : ℕ} → Given t g n p → (n ≤ 8) × (p ≤ count t)
  given_few (not_fours f) = (omega arith, omega arith)
  given_few (too_many h) = (omega arith, omega arith)
  given_few (no_gauge h) = (omega arith, omega arith)
  given_few (many_gauges h) = (omega arith, omega arith)
  given_few (unknown_one l h) = (omega arith, omega arith)
  given_few (unknown_other l h) = (omega arith, omega arith)
  given_few (same_gauge l h) = (omega arith, omega arith)
  given_few (backward l h) = (omega arith, omega arith)
  given_few (too_late l h) = (omega arith, omega arith)
  given_few (shared l h c) = (omega arith, omega arith)

  -- they are tried no later than 8
  pub given_turns : {n p : ℕ} → Given t g n p → turn n ≤ turn 8
  given_turns w = ⊎_elim (λ k. omega (arith, k.0, link_turns)) (λ k. k.1) (given_where w)

  -- two reasons that are given in one turn are one
  turn_one : {m q n p : ℕ} → Given t g m q → Given t g n p → turn m ≡ turn n → m ≡ n
  turn_one a b e = sym (given_turn a) ∙ ap (λ (k : ℕ). get_or reasons k 0) e ∙ given_turn b

  -- no two reasons are both the first
  pub first_one : {m q n p : ℕ} → First t g m q → First t g n p → (m ≡ n) × (q ≡ p)
  first_one {m} {q} {n} {p} a b = dite (ℕ_discrete q p)
      (λ e. dite (ℕ_discrete (turn m) (turn n))
      (λ f. (turn_one a.given b.given f, e))
      (λ d. absurd (dite (dec_le (turn m) (turn n))
      (λ l. b.first m q (inr (e, omega arith)) a.given)
      (λ l. a.first n p (inr (sym e, omega arith)) b.given))))
      (λ d. absurd (dite (dec_le q p) (λ l. b.first m q (inl (omega arith)) a.given) (λ l. a.first n p (inl (omega arith)) b.given)))

module _ (t : List ℕ) (g : ℕ) where
  -- nothing that is tried before turn k at place p is given
  pub record Clear (k p : ℕ) : Type 0 where
    pub clear : (m q : ℕ) → (q < p) ⊎ ((q ≡ p) × (turn m < k)) → Given t g m q → ⊥

  clear_start : Clear 0 0
  clear_start = record { clear = λ m q s w. ⊎_elim (λ h. omega arith) (λ e. omega (arith, e.1)) s }

  clear_more : {n p : ℕ} → get_or reasons (turn n) 0 ≡ n → Clear (turn n) p → (Given t g n p → ⊥) → Clear (suc (turn n)) p
  clear_more {n} {p} here c f = record {
    clear = λ m q s w. ⊎_elim
        (λ h. c.clear m q (inl h) w)
        (λ e. dite (ℕ_discrete (turn m) (turn n))
        (λ d. f (subst₂ (Given t g) (sym (given_turn w) ∙ ap (λ (k : ℕ). get_or reasons k 0) d ∙ here) e.0 w))
        (λ d. c.clear m q (inr (e.0, omega (arith, e.1))) w))
        s;
  }

  -- a link is tried for 4 to 8, and then comes the next one
  clear_link : {i : ℕ} → Clear (suc (turn 8)) i → Clear (turn 4) (suc i)
  clear_link {i} c = record {
    clear = λ m q s w. ⊎_elim
        (λ h. dite (ℕ_discrete q i) (λ e. c.clear m q (inr (e, omega (arith, given_turns w))) w) (λ d. c.clear m q (inl (omega arith)) w))
        (λ e. ⊎_elim (λ k. omega (arith, k.1, e.0)) (λ k. omega (arith, k.0, e.1)) (given_where w))
        s;
  }

  clear_all : Clear (turn 4) (count t) → (n p : ℕ) → Given t g n p → ⊥
  clear_all c n p w = ⊎_elim
      (λ k. dite (ℕ_discrete p (count t)) (λ e. c.clear n p (inr (e, k.0)) w) (λ d. c.clear n p (inl (omega (arith, k.1))) w))
      (λ k. c.clear n p (inl k.2) w)
      (given_where w)

  -- f is what trying everything before turn k at place p finds
  pub data Tried (f : Fault) (k p : ℕ) : Type 0 where
    passed : f ≡ no_fault → Clear k p → Tried f k p
    stopped : {m q : ℕ} → f ≡ fault m q → First t g m q → Tried f k p

  -- reason n is tried in its turn
  try_next : {f : Fault} {n p : ℕ} → get_or reasons (turn n) 0 ≡ n → Tried f (turn n) p → {b : Bool} → Tells b (Given t g n p) → Tried (f or_else if_so b n p) (suc (turn n)) p
  try_next {n = n} {p = p} here (passed e c) {b = true} w = stopped (ap (λ (x : Fault). x or_else fault n p) e) (record { given = w.holds refl; first = c.clear })
  try_next here (passed e c) {b = false} w = passed (ap (λ (x : Fault). x or_else no_fault) e) (clear_more here c (w.fails refl))
  try_next {n = n} {p = p} here (stopped e c) {b = b} w = stopped (ap (λ (x : Fault). x or_else if_so b n p) e) c

  link_done : {f : Fault} {i : ℕ} → Tried f (suc (turn 8)) i → Tried f (turn 4) (suc i)
  link_done (passed e c) = passed e (clear_link c)
  link_done (stopped e c) = stopped e c

  -- what is tried after f, from turn k at place p on, finds f'
  try_then : {f f' : Fault} {k p k' p' : ℕ} → Tried f k p → (Clear k p → Tried f' k' p') → Tried (f or_else f') k' p'
  try_then {f' = f'} {k' = k'} {p' = p'} (passed e c) h = subst (λ (x : Fault). Tried (x or_else f') k' p') (sym e) (h c)
  try_then {f' = f'} (stopped e c) h = stopped (ap (λ (x : Fault). x or_else f') e) c

  try_link : {i : ℕ} → i < count t → Clear (turn 4) i → Tried (link_fault t g i) (turn 4) (suc i)
  unfolding turn_in
  try_link {i} l c =
      let s4 = try_next {n = 4} refl (passed refl c) (tells_4 t g i l) in
      let s5 = try_next {n = 5} refl s4 (tells_5 t g i l) in
      let s6 = try_next {n = 6} refl s5 (tells_6 t g i l) in
      let s7 = try_next {n = 7} refl s6 (tells_7 t g i l) in
      link_done (try_next {n = 8} refl s7 (tells_8 t g i l))

  try_links : (n : ℕ) → n ≤ count t → Clear (turn 4) 0 → Tried (links_fault t g n) (turn 4) n
  unfolding links_fault
  try_links zero l c = passed refl c
  try_links (suc n) l c = try_then (try_links n (omega arith) c) (try_link (omega arith))

  try_head : Tried (head_fault t g) (turn 4) 0
  unfolding head_fault turn_in
  try_head =
      let s1 = try_next {n = 1} refl (passed refl clear_start) (tells_1 t g) in
      let s2 = try_next {n = 2} refl s1 (tells_2 t g) in
      try_next {n = 3} refl s2 (tells_3 t g)

  try_table : Tried (table_fault t g) (turn 4) (count t)
  unfolding table_fault
  try_table = try_then try_head (try_links (count t) (omega arith))

  -- ---- the theorems

  -- the fault of the table as a whole is the first reason that is given, if that is tried before 4
  pub head_first : {n p : ℕ} → head_fault t g ≡ fault n p → First t g n p
  head_first {n} {p} e = go try_head
    where
      go : Tried (head_fault t g) (turn 4) 0 → First t g n p
      go (passed d c) = absurd (fault≢no_fault (sym e ∙ d))
      go (stopped {m} {q} d c) = subst₂ (First t g) (ap reason_of (sym d ∙ e)) (ap place_of (sym d ∙ e)) c

  pub first_head : {n p : ℕ} → First t g n p → turn n < turn 4 → head_fault t g ≡ fault n p
  first_head {n} {p} w l = go try_head
    where
      go : Tried (head_fault t g) (turn 4) 0 → head_fault t g ≡ fault n p
      go (passed e c) = absurd (⊎_elim (λ k. c.clear n p (inr (k.1, l)) w.given) (λ k. omega (arith, k.0)) (given_where w.given))
      go (stopped e c) = let s = first_one c w in e ∙ (λ i. fault (s.0 i) (s.1 i))

  -- a table's fault is a reason, with a place, exactly if that is the first that document 01 gives
  pub fault_first : {n p : ℕ} → table_fault t g ≡ fault n p → First t g n p
  fault_first {n} {p} e = go try_table
    where
      go : Tried (table_fault t g) (turn 4) (count t) → First t g n p
      go (passed d c) = absurd (fault≢no_fault (sym e ∙ d))
      go (stopped {m} {q} d c) = subst₂ (First t g) (ap reason_of (sym d ∙ e)) (ap place_of (sym d ∙ e)) c

  pub first_fault : {n p : ℕ} → First t g n p → table_fault t g ≡ fault n p
  first_fault {n} {p} w = go try_table
    where
      go : Tried (table_fault t g) (turn 4) (count t) → table_fault t g ≡ fault n p
      go (passed e c) = absurd (clear_all c n p w.given)
      go (stopped e c) = let s = first_one c w in e ∙ (λ i. fault (s.0 i) (s.1 i))

  -- it is none exactly if no reason is given
  pub no_fault_given : table_fault t g ≡ no_fault → (n p : ℕ) → Given t g n p → ⊥
  no_fault_given e = go try_table
    where
      go : Tried (table_fault t g) (turn 4) (count t) → (n p : ℕ) → Given t g n p → ⊥
      go (passed d c) = clear_all c
      go (stopped d c) = absurd (fault≢no_fault (sym d ∙ e))

  pub none_given : ((n p : ℕ) → Given t g n p → ⊥) → table_fault t g ≡ no_fault
  none_given f = go try_table
    where
      go : Tried (table_fault t g) (turn 4) (count t) → table_fault t g ≡ no_fault
      go (passed e c) = e
      go (stopped {m} {q} e c) = absurd (f m q c.given)

  -- a table is accepted exactly if no reason is given
  pub given_not_accepted : {n p : ℕ} → Accepted t g → Given t g n p → ⊥
  given_not_accepted a (not_fours f) = f a.whole
  given_not_accepted a (too_many h) = omega (arith, a.few)
  given_not_accepted a (no_gauge e) = omega (arith, a.some_gauge)
  given_not_accepted a (many_gauges h) = omega (arith, a.few_gauges)
  given_not_accepted a (unknown_one {i = i} l h) = omega (arith, a.known_one i l)
  given_not_accepted a (unknown_other {i = i} l h) = omega (arith, a.known_other i l)
  given_not_accepted a (same_gauge {i = i} l e) = a.two i l e
  given_not_accepted a (backward {i = i} l h) = omega (arith, a.forward i l)
  given_not_accepted a (too_late {i = i} l h) = omega (arith, a.in_time i l)
  given_not_accepted a (shared {i = i} {j = j} l h c) = a.apart j i (omega arith) l (λ e. omega arith) c

  pub none_accepted : ((n p : ℕ) → Given t g n p → ⊥) → Accepted t g
  none_accepted f =
      record {
        whole = dite (ℕ_discrete (length t % 4) 0) (λ e. e) (λ d. absurd (f 1 0 (not_fours d)));
        few = at_most (λ h. f 2 0 (too_many h));
        some_gauge = dite (dec_le 1 g) (λ h. h) (λ h. absurd (f 3 0 (no_gauge (omega arith))));
        few_gauges = at_most (λ h. f 3 0 (many_gauges h));
        known_one = λ i l. at_most (λ h. f 4 i (unknown_one l (omega arith)));
        known_other = λ i l. at_most (λ h. f 4 i (unknown_other l (omega arith)));
        two = λ i l e. f 5 i (same_gauge l e);
        forward = λ i l. at_most (λ h. f 6 i (backward l h));
        in_time = λ i l. at_most (λ h. f 7 i (too_late l h));
        apart = λ i j l k d c. dite (dec_le i j) (λ h. f 8 j (shared k (omega arith) c)) (λ h. f 8 i (shared l (omega arith) (clash_sym c)));
      }
    where
      at_most : {a b : ℕ} → (b < a → ⊥) → a ≤ b
      at_most {a} {b} n = dite (dec_le a b) (λ h. h) (λ h. absurd (n (omega arith)))

  -- a table has no fault exactly if it is accepted
  pub no_fault_accepted : table_fault t g ≡ no_fault → Accepted t g
  no_fault_accepted e = none_accepted (no_fault_given e)

  pub accepted_no_fault : Accepted t g → table_fault t g ≡ no_fault
  accepted_no_fault a = none_given (λ n p. given_not_accepted a)

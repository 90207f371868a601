-- Reasons 20 to 25: the outcome of reading is the first reason that document 01 gives, with its place, and an acceptance exactly if none is given. Assumes nothing.
use mathlib.Core.Bool.{Bool, true, false, not, true≢false}
use mathlib.Core.Logic.{inl, inr, ⊎_elim, dite}
use mathlib.Core.Path.{◌≡◌, refl, sym, ap, subst, subst₂, ◌∙◌}
use mathlib.Core.List.{List, ◌++◌, append-nil, append_assoc}
use Prim.Native.Nat.{ℕ, zero, suc, ◌+◌, ◌*◌, ◌-◌, ◌≤◌, ◌<◌}
use native.Mathlib.Decide.{ℕ_discrete, dec_le}
use native.Mathlib.Numerals.{add-one}
use native.Mathlib.Omega.{arith}
use borrow.Author.Tests.{ltb-true, ltb-false, lt-ltb, le-ltb, ne_eqb, eqb-true, eqb-false, not-true, not-false}
use lib.Dec.{eqb, ltb}
use lib.ListN.{length}
use Rattle.links.specs.Faults.{Fault, no_fault, fault, if_so, ◌or_else◌}
use Rattle.links.proofs.Numbered.{IsNumber}
use Rattle.linkfile.specs.Numbers.{number}
use Rattle.linkfile.specs.Records.{length_of, size_at, kind_at, first, later}
use Rattle.linkfile.specs.Reading.{Outcome, accepted, refused, ◌then◌, record_fault, next_at, closing_fault, by_kind, read_from, read_of, link_at, numbers_of}
use Rattle.linkfile.specs.Reasons.{Starts, at_start, behind, Given, no_length, cut_off, no_kind, not_opening, not_later, other_length, no_room, other_count, more_bytes, Sooner, First, walked, Closes}
use Rattle.linkfile.proofs.ReadTold.{Whole, told_whole}

-- ---- where records start

module _ {bytes : List ℕ} where
  -- a record starts at one place
  starts_one : {i at at' : ℕ} → Starts bytes i at → Starts bytes i at' → at ≡ at'
  starts_one at_start at_start = refl
  starts_one (behind s f) (behind s' f') = ap (next_at bytes) (starts_one s s')

  -- no record starts behind one of kind 3
  starts_last : {i j at at' : ℕ} → Starts bytes i at → kind_at bytes at ≡ 3 → Starts bytes j at' → j ≤ i
  starts_last s e at_start = omega arith
  starts_last {i} {at = at} s e (behind {i = j} s' f) = dite (ℕ_discrete j i)
      (λ d. absurd (f (ap (kind_at bytes) (starts_one s' (subst (λ (k : ℕ). Starts bytes k at) (sym d) s)) ∙ e)))
      (λ d. omega (arith, starts_last s e s'))

-- ---- what a reason that is given says

module _ (bytes : List ℕ) (room : ℕ) where
  -- what reason n, given in turn k at record i, says of the record, which starts at `at`, and of its place p
  record Says (i k n p at : ℕ) : Type 0 where
    least : 20 ≤ n
    most : n ≤ 25
    turns : k < 7
    cut : k ≡ 0 → length bytes < next_at bytes at
    small : k ≡ 1 → size_at bytes at < 2
    opening : k ≡ 2 → i ≡ 0 → kind_at bytes at ≡ 1 → ⊥
    no_link : k ≡ 2 → 1 ≤ i → kind_at bytes at ≡ 2 → ⊥
    no_closing : k ≡ 2 → 1 ≤ i → kind_at bytes at ≡ 3 → ⊥
    size : k ≡ 3 → size_at bytes at ≡ length_of (kind_at bytes at) → ⊥
    behind_first : 4 ≤ k → 1 ≤ i
    link : k ≡ 4 → kind_at bytes at ≡ 2
    full : k ≡ 4 → room < i
    closing : 5 ≤ k → kind_at bytes at ≡ 3
    count : k ≡ 5 → suc (number 4 bytes (at + 6)) ≡ i → ⊥
    after : k ≡ 6 → next_at bytes at < length bytes
    inside : at ≤ length bytes → p ≤ length bytes

  given_says : {i k n p : ℕ} → Given bytes room i k n p → (at : ℕ) × Starts bytes i at × Says i k n p at
  given_says (no_length s h) = (_, s, omega arith)
  given_says (cut_off s h) = (_, s, omega arith)
  given_says (no_kind s h) = (_, s, omega arith)
  given_says (not_opening s f) = (_, s, omega arith)
  given_says (not_later s f f') = (_, s, omega arith)
  given_says (other_length s f) = (_, s, omega arith)
  given_says (no_room s e h) = (_, s, omega arith)
  given_says (other_count s e f) = (_, s, omega arith)
  given_says (more_bytes s e h) = (_, s, omega arith)

  -- two reasons that are given in one turn at one record are one
  given_one : {i k m q n p : ℕ} → Given bytes room i k m q → Given bytes room i k n p → (m ≡ n) × (q ≡ p)
  given_one (no_length s h) (no_length s' h') = (refl, starts_one s s')
  given_one (no_length s h) (cut_off s' h') = (refl, starts_one s s')
  given_one (cut_off s h) (no_length s' h') = (refl, starts_one s s')
  given_one (cut_off s h) (cut_off s' h') = (refl, starts_one s s')
  given_one (no_kind s h) (no_kind s' h') = (refl, starts_one s s')
  given_one (not_opening s f) (not_opening s' f') = (refl, starts_one s s')
  given_one (not_later s f g) (not_later s' f' g') = (refl, starts_one s s')
  given_one (other_length s f) (other_length s' f') = (refl, starts_one s s')
  given_one (no_room s e h) (no_room s' e' h') = (refl, starts_one s s')
  given_one (other_count s e f) (other_count s' e' f') = (refl, starts_one s s')
  given_one (more_bytes s e h) (more_bytes s' e' h') = (refl, ap (next_at bytes) (starts_one s s'))

  -- no two reasons are both the first
  first_one : {m q n p : ℕ} → First bytes room m q → First bytes room n p → (m ≡ n) × (q ≡ p)
  first_one {m} {q} {n} {p} a b = dite (ℕ_discrete a.which b.which)
      (λ e. dite (ℕ_discrete a.turn b.turn)
      (λ f. given_one (subst₂ (λ (i k : ℕ). Given bytes room i k m q) e f a.given) b.given)
      (λ d. absurd (dite (dec_le a.turn b.turn)
      (λ l. b.first _ _ m q (inr (e, omega arith)) a.given)
      (λ l. a.first _ _ n p (inr (sym e, omega arith)) b.given))))
      (λ d. absurd (dite (dec_le a.which b.which)
      (λ l. b.first _ _ m q (inl (omega arith)) a.given)
      (λ l. a.first _ _ n p (inl (omega arith)) b.given)))

  -- ---- in the order of trying

  -- nothing that is tried before turn k at record i is given
  record Clear (i k : ℕ) : Type 0 where
    clear : (h j m q : ℕ) → Sooner h j i k → Given bytes room h j m q → ⊥

  clear_start : Clear 0 0
  clear_start = record { clear = λ h j m q s w. ⊎_elim (λ l. omega arith) (λ e. omega (arith, e.1)) s }

  -- a record has seven tests, and then comes the next one
  clear_next : {i : ℕ} → Clear i 7 → Clear (suc i) 0
  clear_next {i} c = record {
    clear = λ h j m q s w. dite (ℕ_discrete h i)
        (λ e. c.clear h j m q (inr (e, (given_says w).2.turns)) w)
        (λ d. c.clear h j m q (inl (⊎_elim (λ l. omega arith) (λ e. omega (arith, e.1)) s)) w);
  }

  first_here : {i k n p : ℕ} → Clear i k → Given bytes room i k n p → First bytes room n p
  first_here c w = record { which = _; turn = _; given = w; first = c.clear }

  -- f is what trying everything before turn k at record i finds
  data Tried (f : Fault) (i k : ℕ) : Type 0 where
    passed : f ≡ no_fault → Clear i k → Tried f i k
    stopped : {n p : ℕ} → f ≡ fault n p → First bytes room n p → Tried f i k

  module _ {i at : ℕ} (S : Starts bytes i at) where
    -- what a reason says of the record at its place
    said : {k n p : ℕ} → Given bytes room i k n p → Says i k n p at
    said {k} {n} {p} w = let g = given_says w in subst (Says i k n p) (starts_one g.1 S) g.2

    -- the turns from k up to j find nothing at this record
    clear_upto : {k : ℕ} (j : ℕ) → Clear i k → ((t m q : ℕ) → k ≤ t → t < j → Says i t m q at → ⊥) → Clear i j
    clear_upto {k} j c f = record {
      clear = λ h t m q s w. ⊎_elim
          (λ l. c.clear h t m q (inl l) w)
          (λ e. dite (dec_le k t)
          (λ l. f t m q l e.1 (said (subst (λ (r : ℕ). Given bytes room r t m q) e.0 w)))
          (λ l. c.clear h t m q (inr (e.0, omega arith)) w))
          s;
    }

    -- a test is tried in its turn
    try_next : {f : Fault} {k n p : ℕ} → Tried f i k → (b : Bool) → (b ≡ true → Given bytes room i k n p)
        → (b ≡ false → (t m q : ℕ) → t ≡ k → Says i t m q at → ⊥)
        → Tried (f or_else if_so b n p) i (suc k)
    try_next {n = n} {p} (passed e c) true y z = stopped (ap (λ (x : Fault). x or_else fault n p) e) (first_here c (y refl))
    try_next {k = k} (passed e c) false y z =
        passed (ap (λ (x : Fault). x or_else no_fault) e) (clear_upto (suc k) c (λ t m q l h. z refl t m q (omega arith)))
    try_next {n = n} {p} (stopped e c) b y z = stopped (ap (λ (x : Fault). x or_else if_so b n p) e) c

    -- fewer than 4 bytes left, or fewer than the length says
    try_whole : Clear i 0 → Tried (if_so (ltb (length bytes - at) 4) 20 at or_else if_so (ltb (length bytes - at - 4) (size_at bytes at)) 20 at) i 1
    try_whole c = dite (dec_le (at + 4) (length bytes))
        (λ h.
        let left = length bytes - at - 4 in
        rw (le-ltb (length bytes - at) 4 (omega arith)) (try_next (passed refl c) (ltb left (size_at bytes at))
        (λ e. cut_off S (omega (arith, ltb-true left (size_at bytes at) e)))
        (λ e t m q d w. omega (arith, ltb-false left (size_at bytes at) e, w.cut d))))
        (λ h. stopped (rw (lt-ltb (length bytes - at) 4 (omega arith))) (first_here c (no_length S (omega arith))))

    -- the tests that every record has: kind is tried by the kinds that are allowed
    try_record : (allowed : ℕ → Bool) → (allowed (kind_at bytes at) ≡ false → Given bytes room i 2 21 at)
        → (allowed (kind_at bytes at) ≡ true → (t m q : ℕ) → t ≡ 2 → Says i t m q at → ⊥)
        → Clear i 0
        → Tried (record_fault bytes allowed at) i 4
    try_record allowed y z c =
        let size = size_at bytes at in
        let s1 = try_next (try_whole c) (ltb size 2) (λ e. no_kind S (ltb-true _ _ e)) (λ e t m q d w. omega (arith, ltb-false size 2 e, w.small d)) in
        let s2 = try_next s1 (not (allowed (kind_at bytes at))) (λ e. y (not-true _ e)) (λ e. z (not-false _ e)) in
        try_next s2 (not (eqb size (length_of (kind_at bytes at)))) (λ e. other_length S (eqb-false _ _ (not-true _ e))) (λ e t m q d w.
        w.size d (eqb-true _ _ (not-false _ e)))

  -- ---- outcomes

  -- what an outcome is to say: nothing is given, or the first that is
  abbrev Told : Outcome → Type 0
  Told (accepted g n) = (i k m q : ℕ) → Given bytes room i k m q → ⊥
  Told (refused n p) = First bytes room n p

  told_then : {f : Fault} {i k : ℕ} → Tried f i k → (o : Outcome) → (Clear i k → Told o) → Told (f then o)
  told_then (passed e c) o h = subst (λ (x : Fault). Told (x then o)) (sym e) (h c)
  told_then (stopped e c) o h = subst (λ (x : Fault). Told (x then o)) (sym e) c

  told_kind : (b : Bool) (o o' : Outcome) → (b ≡ true → Told o) → (b ≡ false → Told o') → Told (by_kind b o o')
  told_kind true o o' y z = y refl
  told_kind false o o' y z = z refl

  -- ---- the records after the first: record n + 1 has n links before it

  module _ {n at : ℕ} (S : Starts bytes (suc n) at) where
    try_later : Clear (suc n) 0 → Tried (record_fault bytes later at) (suc n) 4
    try_later = try_record S later
        (λ e. not_later S (λ d. true≢false (sym (ap later d) ∙ e)) (λ d. true≢false (sym (ap later d) ∙ e)))
        (λ e t m q d w.
        let kind = kind_at bytes at in
        let none : later kind ≡ false = rw (ne_eqb kind 2 (w.no_link d (omega arith)), ne_eqb kind 3 (w.no_closing d (omega arith))) in
        true≢false (sym e ∙ none))

    -- a link that has room
    next_link : Clear (suc n) 4 → kind_at bytes at ≡ 2 → n < room → Clear (suc (suc n)) 0
    next_link c e h = clear_next (clear_upto S 7 c (λ t m q l u w. dite (ℕ_discrete t 4)
        (λ d. omega (arith, w.full d))
        (λ d. omega (arith, w.closing (omega arith)))))

    -- a record of kind 3 closes the file: nothing starts behind it
    closes : Clear (suc n) 4 → (kind_at bytes at ≡ 2 → ⊥) → kind_at bytes at ≡ 3
    closes c d = dite (ℕ_discrete (kind_at bytes at) 3) (λ e. e) (λ f. absurd (c.clear (suc n) 2 21 at (inr (refl, omega arith)) (not_later S d f)))

    try_closing : kind_at bytes at ≡ 3 → Clear (suc n) 4 → Tried (closing_fault bytes at n) (suc n) 7
    try_closing e c =
        let s4 = clear_upto S 5 c (λ t m q l u w. omega (arith, w.link (omega arith))) in
        let s5 = try_next S (passed refl s4) (not (eqb (number 4 bytes (at + 6)) n))
        (λ f. other_count S e (eqb-false _ _ (not-true _ f)))
        (λ f t m q d w. w.count d (ap suc (eqb-true _ _ (not-false _ f)))) in
        try_next S s5 (ltb (next_at bytes at) (length bytes))
        (λ f. more_bytes S e (ltb-true _ _ f))
        (λ f t m q d w. omega (arith, ltb-false (next_at bytes at) (length bytes) f, w.after d))

    clear_all : kind_at bytes at ≡ 3 → Clear (suc n) 7 → (i k m q : ℕ) → Given bytes room i k m q → ⊥
    clear_all e c i k m q w =
        let g = given_says w in
        dite (ℕ_discrete i (suc n))
        (λ d. c.clear i k m q (inr (d, g.2.turns)) w)
        (λ d. c.clear i k m q (inl (omega (arith, starts_last S e g.1))) w)

    told_closing : (g : ℕ) → Clear (suc n) 4 → (kind_at bytes at ≡ 2 → ⊥) → Told (closing_fault bytes at n then accepted g n)
    told_closing g c d = let e = closes c d in told_then (try_closing e c) (accepted g n) (clear_all e)

  told_from : (g r n at : ℕ) → n + r ≡ room → Starts bytes (suc n) at → Clear (suc n) 0 → Told (read_from bytes g r at n)
  unfolding read_from
  told_from g zero n at e S c = told_then (try_later S c) _ (λ d. told_kind (eqb (kind_at bytes at) 2) _ _
      (λ t. first_here d (no_room S (eqb-true _ _ t) (omega arith)))
      (λ f. told_closing S g d (eqb-false _ _ f)))
  told_from g (suc r) n at e S c = told_then (try_later S c) _ (λ d. told_kind (eqb (kind_at bytes at) 2) _ _
      (λ t.
      let two : kind_at bytes at ≡ 2 = eqb-true _ _ t in
      told_from g r (n + 1) (next_at bytes at) (omega arith) (rw (add-one n) (behind S (λ three. omega arith))) (rw (add-one n) (next_link S d two (omega arith))))
      (λ f. told_closing S g d (eqb-false _ _ f)))

  -- ---- the whole file

  try_opening : Tried (record_fault bytes first 0) 0 4
  try_opening = try_record at_start first (λ e. not_opening at_start (eqb-false _ _ e)) (λ e t m q d w. w.opening d refl (eqb-true _ _ e)) clear_start

  read_told : Told (read_of bytes room)
  unfolding read_of
  read_told = told_then try_opening _ (λ c. told_from (number 2 bytes 6) room 0 (next_at bytes 0) (omega arith)
      (behind at_start (λ e. c.clear 0 2 21 0 (inr (refl, omega arith)) (not_opening at_start (λ d. omega arith))))
      (clear_next (clear_upto at_start 7 c (λ t m q l u w. omega (arith, w.behind_first l)))))

  -- ---- the theorems

  -- a file is refused for a reason, at a place, exactly if that is the first that document 01 gives
  pub read_first : {n p : ℕ} → read_of bytes room ≡ refused n p → First bytes room n p
  read_first e = subst Told e read_told

  pub first_read : {n p : ℕ} → First bytes room n p → read_of bytes room ≡ refused n p
  first_read {n} {p} w = go (read_of bytes room) read_told
    where
      go : (o : Outcome) → Told o → o ≡ refused n p
      go (accepted g k) f = absurd (f w.which w.turn n p w.given)
      go (refused m q) v = let s = first_one v w in λ i. refused (s.0 i) (s.1 i)

  -- it is accepted exactly if no reason is given
  pub accepted_none : {g n i k m p : ℕ} → read_of bytes room ≡ accepted g n → Given bytes room i k m p → ⊥
  accepted_none e w = subst Told e read_told _ _ _ _ w

  pub none_accepted : ((i k m p : ℕ) → Given bytes room i k m p → ⊥) → (g : ℕ) × (n : ℕ) × (read_of bytes room ≡ accepted g n)
  none_accepted f = go (read_of bytes room) read_told
    where
      go : (o : Outcome) → Told o → (g : ℕ) × (n : ℕ) × (o ≡ accepted g n)
      go (accepted g n) v = (g, n, refl)
      go (refused m q) v = absurd (f v.which v.turn m q v.given)

  -- the place of the first reason lies in the file or at its end
  pub first_place : {n p : ℕ} → First bytes room n p → p ≤ length bytes
  first_place F =
      let w = given_says F.given in
      w.2.inside (starts_in w.1 (λ i k m q l. F.first i k m q (inl l)))
    where
      starts_in : {i at : ℕ} → Starts bytes i at → ((h k m q : ℕ) → h < i → Given bytes room h k m q → ⊥) → at ≤ length bytes
      starts_in at_start f = omega arith
      starts_in (behind {i = i} {at = at} s d) f = dite (dec_le (next_at bytes at) (length bytes))
          (λ h. h)
          (λ h. absurd (f i 0 20 at (omega arith) (cut_off s (omega arith))))

-- the reasons are 20 to 25
pub given_reason : {bytes : List ℕ} {room i k n p : ℕ} → Given bytes room i k n p → (20 ≤ n) × (n ≤ 25)
given_reason {bytes} {room} w = let s = given_says bytes room w in (s.2.least, s.2.most)

pub read_reason : (bytes : List ℕ) (room : ℕ) {n p : ℕ} → read_of bytes room ≡ refused n p → (20 ≤ n) × (n ≤ 25)
read_reason bytes room e = given_reason (read_first bytes room e).given

-- and each is the number of a reason
given_number : {bytes : List ℕ} {room i k n p : ℕ} → Given bytes room i k n p → IsNumber n
given_number (no_length s h) = refl
given_number (cut_off s h) = refl
given_number (no_kind s h) = refl
given_number (not_opening s f) = refl
given_number (not_later s f h) = refl
given_number (other_length s f) = refl
given_number (no_room s e h) = refl
given_number (other_count s e f) = refl
given_number (more_bytes s e h) = refl

pub read_number : (bytes : List ℕ) (room : ℕ) {n p : ℕ} → read_of bytes room ≡ refused n p → IsNumber n
read_number bytes room e = given_number (read_first bytes room e).given

-- ---- what an accepted file holds

module _ {bytes : List ℕ} {g n : ℕ} (W : Whole bytes g n) where
  walked_on : (k j : ℕ) → k + j ≡ n → numbers_of bytes k ++ walked bytes (8 + 18 * k) j ≡ numbers_of bytes n
  unfolding numbers_of walked
  walked_on k zero e = let d : k ≡ n = omega arith in append-nil (numbers_of bytes k) ∙ ap (numbers_of bytes) d
  walked_on k (suc j) e =
      let at = 8 + 18 * k in
      let next : next_at bytes at ≡ 8 + 18 * suc k = omega (arith, (W.links k (omega arith)).size) in
      sym (append_assoc (numbers_of bytes k) (link_at bytes at) (walked bytes (next_at bytes at) j))
      ∙ ap (λ (a : ℕ). numbers_of bytes k ++ link_at bytes at ++ walked bytes a j) next
      ∙ walked_on (suc k) j (omega arith)

  -- record k + 1 starts behind the opening record and k links
  starts_at : (k : ℕ) → k ≤ n → Starts bytes (suc k) (8 + 18 * k)
  starts_at zero h =
      subst (Starts bytes 1) (omega (arith, W.opening.size)) (behind at_start (λ e. omega (arith, W.opening.kind_is)))
  starts_at (suc k) h =
      let R = W.links k (omega arith) in
      subst (Starts bytes (suc (suc k))) (omega (arith, R.size)) (behind (starts_at k (omega arith)) (λ e. omega (arith, R.kind_is)))

module _ (bytes : List ℕ) (room : ℕ) {g n : ℕ} (e : read_of bytes room ≡ accepted g n) where
  -- its gauge count is that of its opening record
  pub gauges_read : g ≡ number 2 bytes 6
  gauges_read = sym (told_whole bytes room e).gauges

  -- its numbers are those of its link records, one after another behind the opening record
  pub numbers_walked : numbers_of bytes n ≡ walked bytes (next_at bytes 0) n
  unfolding numbers_of
  numbers_walked =
      let W = told_whole bytes room e in
      let start : next_at bytes 0 ≡ 8 + 18 * 0 = omega (arith, W.opening.size) in
      sym (ap (λ (at : ℕ). walked bytes at n) start ∙ walked_on W 0 n (omega arith))

  -- and its closing record stands behind them
  pub read_closes : Closes bytes n
  read_closes =
      let W = told_whole bytes room e in
      record { at = 8 + 18 * n; starts = starts_at W n (omega arith); closing = W.closing.kind_is }

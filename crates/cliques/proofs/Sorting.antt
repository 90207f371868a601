-- Lists that compute: their members by place, a list for each of a list, and lists put in strict order, no member twice. Assumes nothing.
use mathlib.Core.Bool.{Bool, true, false, cond}
use mathlib.Core.List.Memᴰ.{append_cases}
use mathlib.Core.List.Memᴰ.{append_left}
use mathlib.Core.List.Memᴰ.{append_right}
use mathlib.Core.List.Memᴰ.{cases_cons as in-cases}
use mathlib.Core.List.Memᴰ.{head as first}
use mathlib.Core.List.Memᴰ.{not-nil as in-none}
use mathlib.Core.List.Memᴰ.{tail as later}
use mathlib.Core.List.{List, [], ◌∷◌, ◌++◌, Memᴰ as In}
use mathlib.Core.Logic.{◌⊎◌, inl, inr, ⊎_elim, dite}
use mathlib.Core.Path.{◌≡◌, refl, sym, ap, subst, ◌∙◌}
use Prim.Native.Nat.{ℕ, zero, suc, ◌<◌}
use native.Mathlib.Decide.{ℕ_discrete}
use native.Mathlib.Omega.{arith}
use lib.ListN.{length, get_or}
use Rattle.gauges.specs.Flags.{Tells}

-- ---- members and places

module _ {A : Type 0} where
  -- what stands at a place is a member
  pub at_in : (l : List A) (i : ℕ) (d : A) → i < length l → In (get_or l i d) l
  at_in [] i d h = absurd (omega arith)
  at_in (a ∷ l) zero d h = first refl
  at_in (a ∷ l) (suc i) d h = later (at_in l i d (omega arith))

  -- a member stands at a place
  pub in_at : {a : A} {l : List A} (d : A) → In a l → (i : ℕ) × (i < length l) × (get_or l i d ≡ a)
  in_at d (first e) = (0, omega arith, sym e)
  in_at d (later m) = let w = in_at d m in (suc w.0, omega (arith, w.1), w.2)

  -- the list of one, if the flag is true, or of none
  abbrev pub keep : Bool → A → List A
  keep true a = a ∷ []
  keep false a = []

  -- the one is in it, if the flag is true,
  pub keep_in : (b : Bool) (a : A) → b ≡ true → In a (keep b a)
  keep_in b a e = subst (λ (x : Bool). In a (keep x a)) (sym e) (first refl)

  -- and nothing else
  pub in_keep : (b : Bool) (a : A) {c : A} → In c (keep b a) → (b ≡ true) × (c ≡ a)
  in_keep true a i = (refl, ⊎_elim (λ e. e) (λ j. absurd (in-none j)) (in-cases i))
  in_keep false a i = absurd (in-none i)

-- the numbers below n
abbrev pub numbers : ℕ → List ℕ
numbers zero = []
numbers (suc n) = n ∷ numbers n

-- each of them is in it,
pub numbers_in : {k : ℕ} (n : ℕ) → k < n → In k (numbers n)
numbers_in zero h = absurd (omega arith)
numbers_in {k} (suc n) h = dite (ℕ_discrete k n) first (λ f. later (numbers_in n (omega arith)))

-- and nothing else
pub in_numbers : {k : ℕ} (n : ℕ) → In k (numbers n) → k < n
in_numbers zero i = absurd (in-none i)
in_numbers (suc n) i = ⊎_elim (λ e. omega arith) (λ j. omega (arith, in_numbers n j)) (in-cases i)

-- ---- a list for each of a list

module _ {A B : Type 0} (f : A → List B) where
  -- the list of f of each, one after the other
  abbrev pub each : List A → List B
  each [] = []
  each (a ∷ l) = f a ++ each l

  -- what is in the list for one of them is in it
  pub each_in : {a : A} {l : List A} {b : B} → In a l → In b (f a) → In b (each l)
  each_in {b = b} (first {xs = l} e) j = append_left (each l) (subst (λ (x : A). In b (f x)) e j)
  each_in (later {x = x} i) j = append_right (f x) (each_in i j)

  -- and nothing else
  pub in_each : (l : List A) {b : B} → In b (each l) → (a : A) × In a l × In b (f a)
  in_each [] i = absurd (in-none i)
  in_each (a ∷ l) i =
      ⊎_elim (λ j. (a, first refl, j)) (λ j. let w = in_each l j in (w.0, later w.1, w.2)) (append_cases (f a) i)

module _ {A : Type 0} (f : A → Bool) where
  -- those of a list that a test picks
  abbrev pub picked : List A → List A
  picked l = each (λ (a : A). keep (f a) a) l

  -- what passes is picked
  pub picked_in : {a : A} {l : List A} → f a ≡ true → In a l → In a (picked l)
  picked_in {a} e i = each_in (λ (b : A). keep (f b) b) i (keep_in (f a) a e)

  -- and nothing else
  pub in_picked : {a : A} (l : List A) → In a (picked l) → (f a ≡ true) × In a l
  in_picked {a} l i =
      let w = in_each (λ (b : A). keep (f b) b) l i in
      let s = in_keep (f w.0) w.0 w.2 in
      (ap f s.1 ∙ s.0, subst (λ (b : A). In b l) (sym s.1) w.1)

-- ---- strict order

-- each of the list stands before all that follow it
pub data Sorted {A : Type 0} (R : A → A → Type 0) : List A → Type 0 where
  none : Sorted R []
  next : {a : A} {l : List A} → ((b : A) → In b l → R a b) → Sorted R l → Sorted R (a ∷ l)

-- an earlier place stands before a later one
pub sorted_at : {A : Type 0} {R : A → A → Type 0} {l : List A} (d : A) → Sorted R l → (i j : ℕ) → i < j → j < length l → R (get_or l i d) (get_or l j d)
sorted_at d none i j h k = absurd (omega arith)
sorted_at d (next f s) i zero h k = absurd (omega arith)
sorted_at d (next {l = l} f s) zero (suc j) h k = f (get_or l j d) (at_in l j d (omega arith))
sorted_at d (next f s) (suc i) (suc j) h k = sorted_at d s i j (omega arith) (omega arith)

module _ {A : Type 0} (lt : A → A → Bool) where
  -- a member more, at its place; one that is there already is not put in again
  abbrev pub put : A → List A → List A
  put a [] = a ∷ []
  put a (b ∷ l) =
      let r = b ∷ put a l in
      let q = cond (lt b a) r (b ∷ l) in
      cond (lt a b) (a ∷ b ∷ l) q

  -- a list in strict order
  abbrev pub sort : List A → List A
  sort [] = []
  sort (a ∷ l) = put a (sort l)

module _ {A : Type 0} {lt : A → A → Bool} {R : A → A → Type 0} (T : (a b : A) → Tells (lt a b) (R a b)) (or : (a b : A) → R a b ⊎ ((a ≡ b) ⊎ R b a)) where
  -- the three outcomes of putting one in
  put_cases : (a b : A) (l : List A)
      → (R a b × (put lt a (b ∷ l) ≡ a ∷ b ∷ l)) ⊎ ((R b a × (put lt a (b ∷ l) ≡ b ∷ put lt a l)) ⊎ ((a ≡ b) × (put lt a (b ∷ l) ≡ b ∷ l)))
  put_cases a b l = go (lt a b) (lt b a) (T a b) (T b a)
    where
      go : (s t : Bool) → Tells s (R a b) → Tells t (R b a)
          → let w = cond s (a ∷ b ∷ l) (cond t (b ∷ put lt a l) (b ∷ l)) in
          (R a b × (w ≡ a ∷ b ∷ l)) ⊎ ((R b a × (w ≡ b ∷ put lt a l)) ⊎ ((a ≡ b) × (w ≡ b ∷ l)))
      go true t S U = inl (S.holds refl, refl)
      go false true S U = inr (inl (U.holds refl, refl))
      go false false S U = inr (inr (⊎_elim (λ h. absurd (S.fails refl h)) (⊎_elim (λ e. e) (λ h. absurd (U.fails refl h))) (or a b), refl))

  -- it is in, ..
  put_in : (a : A) (l : List A) → In a (put lt a l)
  put_in a [] = first refl
  put_in a (b ∷ l) = ⊎_elim (λ w. subst (In a) (sym w.1) (first refl))
      (⊎_elim (λ w. subst (In a) (sym w.1) (later (put_in a l))) (λ w. subst (In a) (sym w.1) (first w.0)))
      (put_cases a b l)

  -- the others stay, ..
  put_kept : (a : A) {c : A} (l : List A) → In c l → In c (put lt a l)
  put_kept a [] i = absurd (in-none i)
  put_kept a {c} (b ∷ l) i = ⊎_elim (λ w. subst (In c) (sym w.1) (later i))
      (⊎_elim (λ w. subst (In c) (sym w.1) (⊎_elim first (λ j. later (put_kept a l j)) (in-cases i))) (λ w. subst (In c) (sym w.1) i))
      (put_cases a b l)

  -- and no other comes in
  put_just : (a : A) {c : A} (l : List A) → In c (put lt a l) → (c ≡ a) ⊎ In c l
  put_just a [] i = in-cases i
  put_just a {c} (b ∷ l) i = ⊎_elim (λ w. in-cases (subst (In c) w.1 i))
      (⊎_elim
      (λ w. ⊎_elim (λ e. inr (first e)) (λ j. ⊎_elim inl (λ k. inr (later k)) (put_just a l j)) (in-cases (subst (In c) w.1 i)))
      (λ w. inr (subst (In c) w.1 i)))
      (put_cases a b l)

  -- sorting keeps the members
  pub sort_in : (l : List A) {a : A} → In a l → In a (sort lt l)
  sort_in [] i = i
  sort_in (b ∷ l) i = ⊎_elim (λ e. subst (λ (x : A). In x (put lt b (sort lt l))) (sym e) (put_in b (sort lt l))) (λ j. put_kept b (sort lt l) (sort_in l j)) (in-cases i)

  -- and adds none
  pub in_sort : (l : List A) {a : A} → In a (sort lt l) → In a l
  in_sort [] i = i
  in_sort (b ∷ l) i = ⊎_elim first (λ j. later (in_sort l j)) (put_just b (sort lt l) i)

  module _ (trans : (a b c : A) → R a b → R b c → R a c) where
    -- putting one in keeps the order
    put_sorted : (a : A) {l : List A} → Sorted R l → Sorted R (put lt a l)
    put_sorted a none = next (λ b i. absurd (in-none i)) none
    put_sorted a (next {a = b} {l = l} f s) =
        ⊎_elim (λ w. subst (Sorted R) (sym w.1) (next (λ c i. ⊎_elim (λ e. subst (R a) (sym e) w.0) (λ j. trans a b c w.0 (f c j)) (in-cases i)) (next f s)))
        (⊎_elim
        (λ w. subst (Sorted R) (sym w.1) (next (λ c i. ⊎_elim (λ e. subst (R b) (sym e) w.0) (f c) (put_just a l i)) (put_sorted a s)))
        (λ w. subst (Sorted R) (sym w.1) (next f s)))
        (put_cases a b l)

    -- sorting puts all in strict order
    pub sort_sorted : (l : List A) → Sorted R (sort lt l)
    sort_sorted [] = none
    sort_sorted (a ∷ l) = put_sorted a (sort_sorted l)

-- Tests of lists: of each member, of some, of each pair. They compute, stop as soon as the outcome is known, and tell what the test of one tells. Assumes nothing.
use mathlib.Core.Bool.{Bool, true, false, ◌&&◌, ◌||◌, true≢false}
use mathlib.Core.List.Memᴰ.{cases_cons as in-cases}
use mathlib.Core.List.Memᴰ.{head as first}
use mathlib.Core.List.Memᴰ.{not-nil as in-none}
use mathlib.Core.List.Memᴰ.{tail as later}
use mathlib.Core.List.{List, [], ◌∷◌, Memᴰ as In}
use mathlib.Core.Logic.{inl, inr, ⊎_elim}
use mathlib.Core.Path.{◌≡◌, refl, sym, subst}
use Prim.Native.Nat.{ℕ}
use lib.Dec.{eqb}
use Rattle.gauges.specs.Flags.{Tells}
use Rattle.gauges.proofs.Flags.{tells_yes, tells_no, flag_or, tells_as, tells_eq, tells_and, tells_or}

module _ {A : Type 0} where
  -- the test passes at each of the list
  abbrev pub all : (A → Bool) → List A → Bool
  all f [] = true
  all f (a ∷ l) = let r = all f l in f a && r

  -- the test passes at one of the list
  abbrev pub some : (A → Bool) → List A → Bool
  some f [] = false
  some f (a ∷ l) = let r = some f l in f a || r

  -- the test passes at each pair of the list, the one that stands earlier first
  abbrev pub pairs : (A → A → Bool) → List A → Bool
  pairs f [] = true
  pairs f (a ∷ l) = let r = pairs f l in all (f a) l && r

  -- where a test of all fails, it fails at one of the list
  pub all_fails : (f : A → Bool) (l : List A) → all f l ≡ false → (a : A) × In a l × (f a ≡ false)
  all_fails f [] e = absurd (true≢false e)
  all_fails f (a ∷ l) e = ⊎_elim
      (λ t. let w = all_fails f l (subst (λ (b : Bool). b && all f l ≡ false) t e) in (w.0, later w.1, w.2))
      (λ n. (a, first refl, n))
      (flag_or (f a))

  module _ {f : A → Bool} {P : A → Type 0} (T : (a : A) → Tells (f a) (P a)) where
    -- the test of each tells of each, if the test of one tells
    pub tells_all : (l : List A) → Tells (all f l) ((a : A) → In a l → P a)
    tells_all [] = tells_yes (λ a i. absurd (in-none i))
    tells_all (b ∷ l) =
        tells_as (λ h a i. ⊎_elim (λ e. subst P (sym e) h.0) (h.1 a) (in-cases i)) (λ h. (h b (first refl), λ a i. h a (later i))) (tells_and (T b) (tells_all l))

    -- and the test of some tells of some
    pub tells_some : (l : List A) → Tells (some f l) ((a : A) × In a l × P a)
    tells_some [] = tells_no (λ w. in-none w.1)
    tells_some (b ∷ l) =
        tells_as
        (⊎_elim (λ p. (b, first refl, p)) (λ w. (w.0, later w.1, w.2)))
        (λ w. ⊎_elim (λ e. inl (subst P e w.2)) (λ i. inr (w.0, i, w.2)) (in-cases w.1))
        (tells_or (T b) (tells_some l))

  module _ {f : A → A → Bool} {P : A → A → Type 0} (T : (a b : A) → Tells (f a b) (P a b)) (same : (a : A) → P a a) (flip : (a b : A) → P a b → P b a) where
    -- the same of pairs, for a statement that goes both ways and holds of one and itself
    pub tells_pairs : (l : List A) → Tells (pairs f l) ((a b : A) → In a l → In b l → P a b)
    tells_pairs [] = tells_yes (λ a b i. absurd (in-none i))
    tells_pairs (c ∷ l) = tells_as to (λ h. (λ b j. h c b (first refl) (later j), λ a b i j. h a b (later i) (later j))) (tells_and (tells_all (T c) l) (tells_pairs l))
      where
        to : ((b : A) → In b l → P c b) × ((a b : A) → In a l → In b l → P a b) → (a b : A) → In a (c ∷ l) → In b (c ∷ l) → P a b
        to h a b i j = ⊎_elim
            (λ e. subst (λ (x : A). P x b) (sym e) (⊎_elim (λ d. subst (P c) (sym d) (same c)) (h.0 b) (in-cases j)))
            (λ k. ⊎_elim (λ d. subst (P a) (sym d) (flip c a (h.0 a k))) (h.1 a b k) (in-cases j))
            (in-cases i)

-- n is one of the list
abbrev pub elem : ℕ → List ℕ → Bool
elem n l = some (eqb n) l

-- it tells
pub tells_elem : (n : ℕ) (l : List ℕ) → Tells (elem n l) (In n l)
tells_elem n l = tells_as (λ w. subst (λ (x : ℕ). In x l) (sym w.2) w.1) (λ i. (n, i, refl)) (tells_some (tells_eq n) l)

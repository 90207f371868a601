-- The set of the gauges of a list, as a number, by sums of powers of 2: it computes for all gauges. Assumes nothing.
use mathlib.Core.Bool.{Bool, true, false, not, cond}
use mathlib.Core.List.Memᴰ.{cases_cons as in-cases}
use mathlib.Core.List.Memᴰ.{head as first}
use mathlib.Core.List.Memᴰ.{not-nil as in-none}
use mathlib.Core.List.Memᴰ.{tail as later}
use mathlib.Core.List.{List, [], ◌∷◌, Memᴰ as In}
use mathlib.Core.Logic.{◌⊎◌, ◌≢◌, inl, inr, ⊎_elim, dite}
use mathlib.Core.Path.{◌≡◌, refl, sym, ap, ap₂, subst, ◌∙◌}
use Prim.Native.Nat.{ℕ, zero, suc, ◌+◌, ◌*◌, ◌/◌, ◌%◌, ◌^◌, ◌≤◌}
use native.Mathlib.Nat.{pow-suc}
use native.Mathlib.Decide.{ℕ_discrete}
use native.Mathlib.Omega.{arith}
use lib.Dec.{eqb}
use lib.Count.{ones}
use borrow.Author.Tests.{eqb-false, not-true, not-false}
use Rattle.gauges.specs.Flags.{Tells}
use Rattle.gauges.specs.Sets.{Member, set_of}
use Rattle.gauges.proofs.Flags.{tells_no, tells_eq}
use Rattle.gauges.proofs.Laws.{bit, bit_zero, bit_suc, bit_of_zero, tells_member, member_zero, member_pow, member_pow_eq, ones_two, two_members}
use Rattle.cliques.proofs.Tests.{all, all_fails, tells_all}

-- to add a power of 2 that a number does not hold is to set that bit
bit_plus : (j k m : ℕ) → bit k m ≡ 0 → bit j (m + 2 ^ k) ≡ bit j m + bit j (2 ^ k)
bit_plus zero zero m e = bit_zero (m + 1) ∙ odd (sym (bit_zero m) ∙ e) ∙ ap (λ (x : ℕ). x + 1) (sym e)
  where
    odd : m % 2 ≡ 0 → (m + 1) % 2 ≡ 1
    odd h = omega arith
bit_plus zero (suc k) m e = bit_zero (m + 2 ^ suc k) ∙ even (2 ^ k) (2 ^ suc k) (omega (arith, pow-suc 2 k)) ∙ sym (ap₂ ◌+◌ (bit_zero m) (bit_zero (2 ^ suc k)))
  where
    even : (p q : ℕ) → q ≡ 2 * p → (m + q) % 2 ≡ m % 2 + q % 2
    even p q h = omega arith
bit_plus (suc j) zero m e =
    let half : (m + 1) / 2 ≡ m / 2 = omega (arith, bit_zero m) in
    bit_suc j (m + 1) ∙ ap (bit j) half ∙ omega (arith, bit_suc j m, bit_suc j 1, bit_of_zero j)
bit_plus (suc j) (suc k) m e =
    let half : (m + 2 ^ suc k) / 2 ≡ m / 2 + 2 ^ k = omega (arith, pow-suc 2 k) in
    let half' : 2 ^ suc k / 2 ≡ 2 ^ k = omega (arith, pow-suc 2 k) in
    bit_suc j (m + 2 ^ suc k) ∙ ap (bit j) half ∙ bit_plus j k (m / 2) (sym (bit_suc k m) ∙ e)
    ∙ omega (arith, bit_suc j m, bit_suc j (2 ^ suc k), ap (bit j) half')

-- the set with a gauge more
abbrev pub add : ℕ → ℕ → ℕ
add k m = cond (set_of m k) m (m + 2 ^ k)

-- the set of the gauges of a list
abbrev pub mask : List ℕ → ℕ
mask [] = 0
mask (k ∷ l) = add k (mask l)

-- bits are 0 or 1
bit_none : (k m : ℕ) → (Member k m → ⊥) → bit k m ≡ 0
unfolding Member
bit_none k m f = let none : bit k m ≢ 1 = f in omega arith

-- the gauge is in it, ..
add_in : (k m : ℕ) → Member k (add k m)
unfolding Member
add_in k m = go (set_of m k) (tells_member k m)
  where
    go : (b : Bool) → Tells b (Member k m) → Member k (cond b m (m + 2 ^ k))
    go true t = t.holds refl
    go false t = omega (arith, bit_plus k k m (bit_none k m (t.fails refl)), bit_none k m (t.fails refl), member_pow k)

-- the others stay, ..
add_kept : (k m j : ℕ) → Member j m → Member j (add k m)
unfolding Member
add_kept k m j h = go (set_of m k) (tells_member k m)
  where
    go : (b : Bool) → Tells b (Member k m) → Member j (cond b m (m + 2 ^ k))
    go true t = h
    go false t = omega (arith, bit_plus j k m (bit_none k m (t.fails refl)), bit_none j (2 ^ k) other)
      where
        other : Member j (2 ^ k) → ⊥
        other p = t.fails refl (subst (λ (x : ℕ). Member x m) (member_pow_eq j k p) h)

-- and no other is added
add_just : (k m j : ℕ) → Member j (add k m) → (j ≡ k) ⊎ Member j m
unfolding Member
add_just k m j h = go (set_of m k) (tells_member k m) h
  where
    go : (b : Bool) → Tells b (Member k m) → Member j (cond b m (m + 2 ^ k)) → (j ≡ k) ⊎ Member j m
    go true t h = inr h
    go false t h = dite (ℕ_discrete j k) inl
        (λ n. inr (omega (arith, bit_plus j k m (bit_none k m (t.fails refl)), bit_none j (2 ^ k) (λ p. n (member_pow_eq j k p)))))

-- the members of the set of a list are those of the list
pub mask_in : (l : List ℕ) (j : ℕ) → In j l → Member j (mask l)
mask_in [] j i = absurd (in-none i)
mask_in (k ∷ l) j i =
    ⊎_elim (λ e. subst (λ (x : ℕ). Member x (mask (k ∷ l))) (sym e) (add_in k (mask l))) (λ m. add_kept k (mask l) j (mask_in l j m)) (in-cases i)

-- and none else
pub in_mask : (l : List ℕ) (j : ℕ) → Member j (mask l) → In j l
in_mask [] j h = absurd (member_zero j h)
in_mask (k ∷ l) j h = ⊎_elim first (λ m. later (in_mask l j m)) (add_just k (mask l) j h)

-- the list has two different gauges
abbrev pub two : List ℕ → Bool
two [] = false
two (k ∷ l) = not (all (eqb k) l)

-- a list of one gauge has no other member
one_member : (k : ℕ) (l : List ℕ) → all (eqb k) l ≡ true → (j : ℕ) → Member j (mask (k ∷ l)) → j ≡ k
one_member k l e j m = ⊎_elim (λ d. d) (λ i. sym ((tells_all (tells_eq k) l).holds e j i)) (in-cases (in_mask (k ∷ l) j m))

-- it tells of two members or more
pub tells_two : (l : List ℕ) → Tells (two l) (2 ≤ ones (mask l))
unfolding ones
tells_two [] = tells_no (λ h. omega arith)
tells_two (k ∷ l) =
    record {
      holds = λ e.
          let w = all_fails (eqb k) l (not-true (all (eqb k) l) e) in
          ones_two k w.0 (mask (k ∷ l)) (eqb-false k w.0 w.2) (mask_in (k ∷ l) k (first refl)) (mask_in (k ∷ l) w.0 (later w.1));
      fails = λ e h.
          let w = two_members (mask (k ∷ l)) h in
          let one = one_member k l (not-false (all (eqb k) l) e) in
          omega (arith, one w.0 w.3, one w.1 w.4, w.2);
    }

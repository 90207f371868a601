-- The laws of `Grown`: growth composes, also with a later one that finds no room. Assumes nothing.
use mathlib.Core.Logic.{◌⊎◌, inl, inr, ⊎_elim}
use mathlib.Core.Path.{◌≡◌, refl, ◌∙◌}
use mathlib.Core.List.{List}
use Prim.Native.Nat.{ℕ, ◌≤◌, ◌<◌}
use native.Mathlib.Nat.{le_refl, le_trans, lt_of_lt_of_le}
use native.Mathlib.Omega.{arith}
use Rattle.std.specs.Prelude.{Result, Ok, Err, MatchResult}
use Rattle.cliques.specs.Groups.{Row}
use Rattle.cliques.specs.Buffers.{row}
use Rattle.sweep.specs.declared.store.Full.{Full}
use Rattle.sweep.specs.Store.{Held, Missing, Tidy, Grown, Overgrown}

-- no row is tidy in every buffer
pub nothing_tidy : (out : List ℕ) → Tidy out 0
nothing_tidy out = record { fits = omega arith; ordered = λ i j h k. absurd (omega arith) }

-- and holds no row
pub nothing_held : {out : List ℕ} {c : Row} → Held out 0 c → ⊥
nothing_held h = omega (arith, h.there)

-- rows that stand where they stood are still held
pub held_on : {o o' : List ℕ} {n n' : ℕ} → ((i : ℕ) → i < n → row o' i ≡ row o i) → n ≤ n' → (c : Row) → Held o n c → Held o' n' c
held_on same more c h = record { place = h.place; there = lt_of_lt_of_le h.there more; is = same h.place h.there ∙ h.is }

-- ---- growth

-- nothing was done, and nothing is required
pub grown_none : {A : Row → Type 0} {out : List ℕ} {n : ℕ} → Tidy out n → Grown A (λ _. ⊥) out n out n
grown_none {n = n} t =
    record { tidy = t; same = λ i h. refl; sound = λ c h. inl h; complete = λ c z. absurd z; more = le_refl n; size = refl; rest = λ i h. refl }

-- other bounds for the same growth: more may be added, and what is required is there for another reason
pub grown_as : {A B R C : Row → Type 0} {o o' : List ℕ} {n n' : ℕ}
    → Grown A R o n o' n' → ((c : Row) → A c → B c) → ((c : Row) → C c → Held o' n' c) → Grown B C o n o' n'
grown_as g wider all =
    record {
      tidy = g.tidy;
      same = g.same;
      sound = λ c x. ⊎_elim inl (λ a. inr (wider c a)) (g.sound c x);
      complete = all;
      more = g.more;
      size = g.size;
      rest = g.rest;
    }

-- One growth after another: what either may add may be added, and what either requires is there.
pub grown_trans : {A A' B R R' C : Row → Type 0} {o₀ o₁ o₂ : List ℕ} {n₀ n₁ n₂ : ℕ}
    → Grown A R o₀ n₀ o₁ n₁ → Grown A' R' o₁ n₁ o₂ n₂
    → ((c : Row) → A c → B c) → ((c : Row) → A' c → B c) → ((c : Row) → C c → R c ⊎ R' c)
    → Grown B C o₀ n₀ o₂ n₂
grown_trans g h left right parts =
    record {
      tidy = h.tidy;
      same = λ i l. h.same i (lt_of_lt_of_le l g.more) ∙ g.same i l;
      sound = λ c x. ⊎_elim (λ y. ⊎_elim inl (λ a. inr (left c a)) (g.sound c y)) (λ a. inr (right c a)) (h.sound c x);
      complete = λ c z. ⊎_elim (λ y. held_on h.same h.more c (g.complete c y)) (h.complete c) (parts c z);
      more = le_trans g.more h.more;
      size = h.size ∙ g.size;
      rest = λ i l. h.rest i l ∙ g.rest i (omega (arith, h.more));
    }

-- ---- no room

-- a row that is missing is so where more may be added
pub missing_as : {A B : Row → Type 0} {o : List ℕ} → ((c : Row) → A c → B c) → Missing A o → Missing B o
missing_as wider m = record { extra = m.extra; wanted = wider m.extra m.wanted; absent = m.absent }

-- what finds no room after growth finds none with the rows before it
pub overgrown_after : {A A' B R : Row → Type 0} {o₀ o₁ o₂ : List ℕ} {n₀ n₁ : ℕ}
    → Grown A R o₀ n₀ o₁ n₁ → ((c : Row) → A c → B c) → ((c : Row) → A' c → B c) → Overgrown A' o₁ n₁ o₂ → Overgrown B o₀ n₀ o₂
overgrown_after g left right w = (grown_trans g w.0 left right (λ c z. absurd z), missing_as right w.1)

-- growth after growth where the later one answers: the rows of both are there, or what both may add found no room
pub grows_trans : {A A' B R R' C : Row → Type 0} {o₀ o₁ : List ℕ} {n₀ n₁ : ℕ}
    → Grown A R o₀ n₀ o₁ n₁ → ((c : Row) → A c → B c) → ((c : Row) → A' c → B c) → ((c : Row) → C c → R c ⊎ R' c)
    → (o₂ : List ℕ) (r : Result ℕ Full) → MatchResult r (λ n₂. Grown A' R' o₁ n₁ o₂ n₂) (λ _. Overgrown A' o₁ n₁ o₂)
    → MatchResult r (λ n₂. Grown B C o₀ n₀ o₂ n₂) (λ _. Overgrown B o₀ n₀ o₂)
grows_trans g left right parts o₂ (Ok n₂) h = grown_trans g h left right parts
grows_trans g left right parts o₂ (Err e) w = overgrown_after g left right w

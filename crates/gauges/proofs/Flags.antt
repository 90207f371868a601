-- Flags that tell: tests of numbers, and their conjunctions, disjunctions and negations, tell what they test. Assumes nothing.
use mathlib.Core.Bool.{Bool, true, false, not, ◌&&◌, ◌||◌, true≢false, decide}
use mathlib.Core.Logic.{◌⊎◌, inl, inr, ⊎_elim}
use mathlib.Core.Path.{◌≡◌, refl, sym}
use Prim.Native.Nat.{ℕ, ◌≤◌, ◌<◌}
use native.Mathlib.Omega.{arith}
use borrow.Author.Tests.{ltb-true, ltb-false, leb-true, leb-false, eqb-true, eqb-false}
use lib.Dec.{ltb, leb, eqb}
use Rattle.gauges.specs.Flags.{Tells}

-- ---- flags that are known

pub tells_yes : {P : Type 0} → P → Tells true P
tells_yes p = record { holds = λ e. p; fails = λ e q. absurd (true≢false e) }

pub tells_no : {P : Type 0} → (P → ⊥) → Tells false P
tells_no f = record { holds = λ e. absurd (true≢false (sym e)); fails = λ e. f }

pub told_true : {b : Bool} {P : Type 0} → Tells b P → P → b ≡ true
told_true {b = true} t p = refl
told_true {b = false} t p = absurd (t.fails refl p)

pub told_false : {b : Bool} {P : Type 0} → Tells b P → (P → ⊥) → b ≡ false
told_false {b = true} t f = absurd (f (t.holds refl))
told_false {b = false} t f = refl

-- no two flags tell of one statement
pub tells_one : {a b : Bool} {P : Type 0} → Tells a P → Tells b P → a ≡ b
tells_one {a = true} s t = sym (told_true t (s.holds refl))
tells_one {a = false} s t = sym (told_false t (s.fails refl))

-- a flag is true or false
pub flag_or : (b : Bool) → (b ≡ true) ⊎ (b ≡ false)
flag_or true = inl refl
flag_or false = inr refl

-- a flag decides what it tells, by computing
unfoldable pub tells_dec : {b : Bool} {P : Type 0} → Tells b P → Dec P
tells_dec {b = true} t = yes (t.holds refl)
tells_dec {b = false} t = no (t.fails refl)

-- and a decision is a flag that tells
pub tells_decide : {P : Type 0} (d : Dec P) → Tells (decide d) P
unfolding decide
tells_decide (yes p) = tells_yes p
tells_decide (no f) = tells_no f

-- a flag that tells of P tells of whatever holds exactly when P does
pub tells_as : {b : Bool} {P Q : Type 0} → (P → Q) → (Q → P) → Tells b P → Tells b Q
tells_as to from t = record { holds = λ e. to (t.holds e); fails = λ e q. t.fails e (from q) }

-- ---- tests of numbers

pub tells_lt : (m n : ℕ) → Tells (ltb m n) (m < n)
tells_lt m n = record { holds = ltb-true m n; fails = λ e l. omega (arith, ltb-false m n e) }

pub tells_le : (m n : ℕ) → Tells (leb m n) (m ≤ n)
tells_le m n = record { holds = leb-true m n; fails = λ e l. omega (arith, leb-false m n e) }

pub tells_eq : (m n : ℕ) → Tells (eqb m n) (m ≡ n)
tells_eq m n = record { holds = eqb-true m n; fails = eqb-false m n }

-- ---- and, or, not

pub tells_and : {a b : Bool} {P Q : Type 0} → Tells a P → Tells b Q → Tells (a && b) (P × Q)
tells_and {a = true} {b = true} s t = tells_yes (s.holds refl, t.holds refl)
tells_and {a = true} {b = false} s t = tells_no (λ w. t.fails refl w.1)
tells_and {a = false} {b = b} s t = tells_no (λ w. s.fails refl w.0)

pub tells_or : {a b : Bool} {P Q : Type 0} → Tells a P → Tells b Q → Tells (a || b) (P ⊎ Q)
tells_or {a = true} {b = b} s t = tells_yes (inl (s.holds refl))
tells_or {a = false} {b = true} s t = tells_yes (inr (t.holds refl))
tells_or {a = false} {b = false} s t = tells_no (⊎_elim (s.fails refl) (t.fails refl))

pub tells_not : {b : Bool} {P : Type 0} → Tells b P → Tells (not b) (P → ⊥)
tells_not {b = true} t = tells_no (λ f. f (t.holds refl))
tells_not {b = false} t = tells_yes (t.fails refl)

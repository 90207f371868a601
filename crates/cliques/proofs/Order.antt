-- The order of rows is strict and total, and told by a flag. Assumes nothing.
use mathlib.Core.Path.{◌≡◌, refl, sym, ap}
use mathlib.Core.Bool.{Bool, ◌&&◌, ◌||◌}
use mathlib.Core.Logic.{◌⊎◌, inl, inr, ⊎_elim, dite}
use Prim.Native.Nat.{ℕ, ◌≤◌, ◌<◌}
use native.Mathlib.Decide.{ℕ_discrete, dec_le}
use native.Mathlib.Omega.{arith}
use lib.Dec.{ltb, eqb}
use Rattle.gauges.specs.Flags.{Tells}
use Rattle.gauges.proofs.Flags.{tells_as, tells_and, tells_or, tells_lt, tells_eq}
use Rattle.cliques.specs.Groups.{Row}
use Rattle.cliques.specs.Lists.{Before, by_begin, by_end, by_members}
use Rattle.cliques.proofs.Rows.{same_row}

-- rows of which one stands before the other differ
pub before_differ : {c d : Row} → Before c d → c ≡ d → ⊥
before_differ (by_begin h) e = omega (arith, ap (λ (r : Row). r.begin) e)
before_differ (by_end _ h) e = omega (arith, ap (λ (r : Row). r.end) e)
before_differ (by_members _ _ h) e = omega (arith, ap (λ (r : Row). r.members) e)

-- no row stands before itself
pub before_irrefl : {c : Row} → Before c c → ⊥
before_irrefl p = before_differ p refl

-- a row before another begins no later
before_begin : {c d : Row} → Before c d → c.begin ≤ d.begin
before_begin (by_begin h) = omega arith
before_begin (by_end e h) = omega arith
before_begin (by_members e f h) = omega arith

-- a row before one that stands before a third stands before the third
pub before_trans : {b c d : Row} → Before b c → Before c d → Before b d
before_trans (by_begin h) q = by_begin (omega (arith, before_begin q))
before_trans (by_end e h) (by_begin k) = by_begin (omega arith)
before_trans (by_end e h) (by_end e' k) = by_end (omega arith) (omega arith)
before_trans (by_end e h) (by_members e' f k) = by_end (omega arith) (omega arith)
before_trans (by_members e f h) (by_begin k) = by_begin (omega arith)
before_trans (by_members e f h) (by_end e' k) = by_end (omega arith) (omega arith)
before_trans (by_members e f h) (by_members e' f' k) = by_members (omega arith) (omega arith) (omega arith)

-- two rows do not stand before each other
pub before_asym : {c d : Row} → Before c d → Before d c → ⊥
before_asym p q = before_irrefl (before_trans p q)

-- of two numbers one is less or they are equal
pub lt_or : (m n : ℕ) → (m < n) ⊎ ((m ≡ n) ⊎ (n < m))
lt_or m n = dite (dec_le n m) (λ h. inr (dite (ℕ_discrete m n) inl (λ f. inr (omega arith)))) (λ h. inl (omega arith))

-- of two rows one stands before the other or they are equal
pub before_or : (c d : Row) → Before c d ⊎ ((c ≡ d) ⊎ Before d c)
before_or c d = go (lt_or c.begin d.begin) (lt_or c.end d.end) (lt_or c.members d.members)
  where
    Cases : ℕ → ℕ → Type 0
    Cases m n = (m < n) ⊎ ((m ≡ n) ⊎ (n < m))

    go : Cases c.begin d.begin → Cases c.end d.end → Cases c.members d.members → Before c d ⊎ ((c ≡ d) ⊎ Before d c)
    go (inl h) q r = inl (by_begin h)
    go (inr (inr h)) q r = inr (inr (by_begin h))
    go (inr (inl e)) (inl h) r = inl (by_end e h)
    go (inr (inl e)) (inr (inr h)) r = inr (inr (by_end (sym e) h))
    go (inr (inl e)) (inr (inl f)) (inl h) = inl (by_members e f h)
    go (inr (inl e)) (inr (inl f)) (inr (inl k)) = inr (inl (same_row e f k))
    go (inr (inl e)) (inr (inl f)) (inr (inr h)) = inr (inr (by_members (sym e) (sym f) h))

-- whether one row stands before another, as a flag, which computes
abbrev pub beforeb : Row → Row → Bool
beforeb c d =
    let m = eqb c.end d.end && ltb c.members d.members in
    let e = eqb c.begin d.begin && (ltb c.end d.end || m) in
    ltb c.begin d.begin || e

-- it tells
pub tells_before : (c d : Row) → Tells (beforeb c d) (Before c d)
tells_before c d =
    tells_as
    (⊎_elim by_begin (λ h. ⊎_elim (by_end h.0) (λ k. by_members h.0 k.0 k.1) h.1))
    from
    (tells_or (tells_lt c.begin d.begin) (tells_and (tells_eq c.begin d.begin)
    (tells_or (tells_lt c.end d.end) (tells_and (tells_eq c.end d.end) (tells_lt c.members d.members)))))
  where
    from : Before c d → (c.begin < d.begin) ⊎ ((c.begin ≡ d.begin) × ((c.end < d.end) ⊎ ((c.end ≡ d.end) × (c.members < d.members))))
    from (by_begin h) = inl h
    from (by_end e h) = inr (e, inl h)
    from (by_members e f h) = inr (e, inr (f, h))

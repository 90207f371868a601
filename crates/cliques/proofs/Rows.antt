-- Rows: which are equal, which lie inside which, and the three rows that are one step larger than a row. Assumes nothing.
use mathlib.Core.Path.{◌≡◌, sym, ap, subst}
use Prim.Native.Nat.{ℕ, suc, ◌^◌}
use native.Mathlib.Nat.{le_refl}
use native.Mathlib.Decide.{ℕ_discrete}
use native.Mathlib.Omega.{arith}
use lib.Bits.{bit_or}
use Rattle.gauges.specs.Sets.{Member, Within}
use Rattle.gauges.proofs.Bounded.{given}
use Rattle.gauges.proofs.Laws.{member_ext, member_pow, or_left, or_right, within_refl, within_trans}
use Rattle.cliques.specs.Groups.{Row, Inside, Strictly}

-- two rows are equal if their three numbers are
pub same_row : {c d : Row} → c.begin ≡ d.begin → c.end ≡ d.end → c.members ≡ d.members → c ≡ d
same_row p q r = λ i. record { begin = p i; end = q i; members = r i }

-- whether two rows are equal is decided
unfoldable pub row_dec : (c d : Row) → Dec (c ≡ d)
unfolding ℕ_discrete
row_dec c d =
    given (ℕ_discrete c.begin d.begin) (ap (λ (r : Row). r.begin)) (λ p.
    given (ℕ_discrete c.end d.end) (ap (λ (r : Row). r.end)) (λ q.
    given (ℕ_discrete c.members d.members) (ap (λ (r : Row). r.members)) (λ r. yes (same_row p q r))))

-- a row lies inside itself
pub inside_refl : (c : Row) → Inside c c
inside_refl c = record { gauges = within_refl c.members; from = le_refl c.begin; upto = le_refl c.end }

-- a row lies inside whatever a row that it lies inside lies inside
pub inside_trans : {c d e : Row} → Inside c d → Inside d e → Inside c e
inside_trans {c} {d} {e} p q =
    record { gauges = within_trans c.members d.members e.members p.gauges q.gauges; from = omega arith; upto = omega arith }

-- two rows inside one another are equal
pub inside_both : {c d : Row} → Inside c d → Inside d c → c ≡ d
inside_both {c} {d} p q = same_row (omega arith) (omega arith) (member_ext c.members d.members p.gauges q.gauges)

-- ---- one step larger

-- c with a further gauge
abbrev pub with_gauge : Row → ℕ → Row
with_gauge c k = record { begin = c.begin; end = c.end; members = bit_or c.members (2 ^ k) }

-- c from another hour
abbrev pub from_hour : Row → ℕ → Row
from_hour c x = record { begin = x; end = c.end; members = c.members }

-- c to another hour
abbrev pub upto_hour : Row → ℕ → Row
upto_hour c y = record { begin = c.begin; end = y; members = c.members }

-- a row lies strictly inside the one with a gauge that it lacks,
pub with_gauge_strictly : (c : Row) (k : ℕ) → (Member k c.members → ⊥) → Strictly c (with_gauge c k)
unfolding Within
with_gauge_strictly c k f =
    record {
      inside = record { gauges = λ j h. or_left c.members (2 ^ k) j h; from = le_refl c.begin; upto = le_refl c.end };
      differ = λ e. f (subst (λ (d : Row). Member k d.members) (sym e) (or_right c.members (2 ^ k) k (member_pow k)));
    }

-- the one from an hour earlier
pub from_hour_strictly : (c : Row) (x : ℕ) → suc x ≡ c.begin → Strictly c (from_hour c x)
from_hour_strictly c x e =
    record {
      inside = record { gauges = within_refl c.members; from = omega arith; upto = le_refl c.end };
      differ = λ s. omega (arith, ap (λ (d : Row). d.begin) s);
    }

-- and the one to an hour later
pub upto_hour_strictly : (c : Row) → Strictly c (upto_hour c (suc c.end))
upto_hour_strictly c =
    record {
      inside = record { gauges = within_refl c.members; from = le_refl c.begin; upto = omega arith };
      differ = λ s. omega (arith, ap (λ (d : Row). d.end) s);
    }

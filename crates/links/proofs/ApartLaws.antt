-- Spans that are held against the latest of their pair: none that passes shares an hour with one passed before. Assumes nothing.
use mathlib.Core.Logic.{⊎_elim, dite}
use mathlib.Core.Path.{◌≡◌, sym, ap, subst, subst₂, ◌∙◌}
use mathlib.Core.List.{List}
use Prim.Native.Nat.{ℕ, ◌+◌, ◌%◌, ◌≤◌, ◌<◌}
use native.Mathlib.Decide.{ℕ_discrete, dec_lt}
use native.Mathlib.Omega.{arith}
use lib.ListN.{length, get_or, set, take, length-set}
use lib.Seq.{get_or-set_same, get_or-set_other, get_or-take, length-take-le}
use Rattle.links.specs.Links.{count, begins, ends, Clash, Apart}
use Rattle.links.specs.Chains.{pair_of, Placed}
use Rattle.links.specs.Lines.{ByBegin, lined_up, no_room}
use Rattle.links.specs.Spans.{Formed, AllFormed, Passes, Lined, Spans}
use Rattle.links.proofs.Pairs.{clash_sym}
use Rattle.links.proofs.ChainLaws.{same_place, place_below}

-- a formed span has a place for its pair
pub formed_placed : {t : List ℕ} {i : ℕ} → Formed t i → Placed t i
formed_placed F = record { one_below = F.known_one; other_below = F.known_other }

-- the first k spans of the line are apart, and each ends before the hour that `free` has of its pair
pub record Passed (t line free : List ℕ) (k : ℕ) : Type 0 where
  pub size : length free ≡ 4096
  pub ended : (j : ℕ) → j < k → ends t (get_or line j 0) < get_or free (pair_of t (get_or line j 0)) 0
  pub apart : (i j : ℕ) → i < j → j < k → Clash t (get_or line i 0) (get_or line j 0) → ⊥

-- a span that begins no sooner than that hour passes too
pub passed_more : {t line free : List ℕ} {k r p e : ℕ} → Passed t line free k → get_or line k 0 ≡ r → Formed t r → p ≡ pair_of t r → get_or free p 0 ≤ begins t r → e ≡ ends t r
    → Passed t line (set free p (e + 1)) (k + 1)
passed_more {t} {line} {free} {k} {r} {p} {e} P is F at l end =
    record {
      size = length-set free p (e + 1) ∙ P.size;
      ended = λ j h. dite (ℕ_discrete (pair_of t (get_or line j 0)) p)
          (λ q. dite (ℕ_discrete j k)
          (λ d. omega (arith, ap (λ (n : ℕ). get_or (set free p (e + 1)) n 0) q, here, ap (λ (n : ℕ). ends t (get_or line n 0)) d, ap (ends t) is))
          (λ d. omega (arith, ap (λ (n : ℕ). get_or (set free p (e + 1)) n 0) q, here, P.ended j (omega arith), ap (λ (n : ℕ). get_or free n 0) q, F.forward)))
          (λ q. dite (ℕ_discrete j k)
          (λ d. absurd (q (ap (λ (n : ℕ). pair_of t (get_or line n 0)) d ∙ ap (pair_of t) is ∙ sym at)))
          (λ d. omega (arith, get_or-set_other free p (pair_of t (get_or line j 0)) (e + 1) 0 q, P.ended j (omega arith))));
      apart = λ i j h m c. dite (ℕ_discrete j k)
          (λ d. last i (omega arith) (subst (Clash t (get_or line i 0)) (ap (λ (n : ℕ). get_or line n 0) d ∙ is) c))
          (λ d. P.apart i j h (omega arith) c);
    }
  where
    here : get_or (set free p (e + 1)) p 0 ≡ e + 1
    here = get_or-set_same free p (e + 1) 0 (omega (arith, P.size, at, place_below (formed_placed F)))

    last : (i : ℕ) → i < k → Clash t (get_or line i 0) r → ⊥
    last i h c =
        omega (arith, P.ended i h, ap (λ (n : ℕ). get_or free n 0) (same_place c ∙ sym at), c.in_one.upto, c.in_other.from)

-- all of them are then apart
pub passed_apart : {t line free free₀ : List ℕ} → Passes t line free₀ → Passed t line free (count t) → Apart t
passed_apart {t} {line} S P i j h l d c =
    let u = S.all i h in
    let v = S.all j l in
    dite (dec_lt u.0 v.0)
    (λ m. P.apart u.0 v.0 m v.1 (subst₂ (Clash t) (sym u.2) (sym v.2) c))
    (λ m. dite (ℕ_discrete u.0 v.0)
    (λ e. d (sym u.2 ∙ ap (λ (n : ℕ). get_or line n 0) e ∙ v.2))
    (λ n. P.apart v.0 u.0 (omega arith) u.1 (subst₂ (Clash t) (sym v.2) (sym u.2) (clash_sym c))))

-- a line with room has every span
pub line_passes : {t line free : List ℕ} → Lined t line → count t ≤ 2048 → count t ≤ length line → AllFormed t → length free ≡ 4096 → Passes t (take (count t) line) free
line_passes {t} {line} {free} L few room F pairs = go L.by
  where
    go : ByBegin t L.before line → Passes t (take (count t) line) free
    go (lined_up f r U) =
        record {
          formed = F;
          size = length-take-le (count t) line room;
          known = λ k h. rw get_or-take (U.known k h);
          all = λ q h. let w = U.all q h in let m = w.1 in (w.0, w.1, rw get_or-take w.2);
          pairs = pairs;
        }
    go (no_room n d) = absurd (⊎_elim (λ h. omega arith) (λ h. omega (arith, ap length d)) n)

-- whole fours, few enough of them, formed and apart, are a table of spans
pub formed_spans : {t : List ℕ} → length t % 4 ≤ 0 → count t ≤ 2048 → AllFormed t → Apart t → Spans t
formed_spans whole few F A =
    record {
      whole = omega arith;
      few = few;
      known_one = λ i h. (F i h).known_one;
      known_other = λ i h. (F i h).known_other;
      two = λ i h. (F i h).two;
      forward = λ i h. (F i h).forward;
      in_time = λ i h. (F i h).in_time;
      apart = A;
    }

-- The largest file of an accepted table: 36,882 bytes are reached, by 2,048 links of one hour each. Assumes nothing.
use mathlib.Core.Path.{◌≡◌, refl, ap, ◌∙◌}
use mathlib.Core.List.{List, [], ◌∷◌}
use Prim.Native.Nat.{ℕ, zero, suc, ◌+◌, ◌*◌, ◌≤◌, ◌<◌}
use native.Mathlib.Nat.{not-suc-le-zero}
use native.Mathlib.Omega.{arith}
use lib.ListN.{length, get_or}
use Rattle.links.specs.Links.{count, begins, ends, one, other, Accepted}
use Rattle.linkfile.specs.Files.{file_of}
use Rattle.linkfile.proofs.FileLaws.{length_file}

-- n links of gauges 0 and 1, an hour each, from hour h on
hours : ℕ → ℕ → List ℕ
hours h zero = []
hours h (suc n) = h ∷ h ∷ 0 ∷ 1 ∷ hours (suc h) n

length_hours : (h n : ℕ) → length (hours h n) ≡ 4 * n
unfolding hours
length_hours h zero = refl
length_hours h (suc n) = omega (arith, length_hours (suc h) n)

-- link i joins gauges 0 and 1 at hour h alone
record Hour (t : List ℕ) (i h : ℕ) : Type 0 where
  b_is : begins t i ≡ h
  e_is : ends t i ≡ h
  u_is : one t i ≡ 0
  v_is : other t i ≡ 1

hour_of : (h n i : ℕ) → i < n → Hour (hours h n) i (h + i)
unfolding hours
hour_of h zero i l = absurd (not-suc-le-zero l)
hour_of h (suc n) zero l = record { b_is = omega arith; e_is = omega arith; u_is = refl; v_is = refl }
hour_of h (suc n) (suc i) l =
    let H = hour_of (suc h) n i (omega arith) in
    record {
      b_is = behind (4 * suc i) (4 * i) (omega arith) ∙ H.b_is ∙ omega arith;
      e_is = behind (4 * suc i + 1) (4 * i + 1) (omega arith) ∙ H.e_is ∙ omega arith;
      u_is = behind (4 * suc i + 2) (4 * i + 2) (omega arith) ∙ H.u_is;
      v_is = behind (4 * suc i + 3) (4 * i + 3) (omega arith) ∙ H.v_is;
    }
  where
    behind : (j k : ℕ) → j ≡ suc (suc (suc (suc k))) → get_or (hours h (suc n)) j 0 ≡ get_or (hours (suc h) n) k 0
    behind j k e = ap (λ (x : ℕ). get_or (hours h (suc n)) x 0) e

-- such links are accepted, if there are 2,048 at most
hours_accepted : (n : ℕ) → n ≤ 2048 → Accepted (hours 0 n) 2
hours_accepted n few =
    record {
      whole = omega (arith, length_hours 0 n);
      few = omega (arith, length_hours 0 n);
      some_gauge = omega arith;
      few_gauges = omega arith;
      known_one = λ i l. omega (arith, at i l);
      known_other = λ i l. omega (arith, at i l);
      two = λ i l e. omega (arith, at i l);
      forward = λ i l. omega (arith, at i l);
      in_time = λ i l. omega (arith, at i l, length_hours 0 n);
      apart = λ i j l k d c. d (omega (arith, at i l, at j k));
    }
  where
    at : (i : ℕ) → i < count (hours 0 n) → Hour (hours 0 n) i (0 + i)
    at i l = hour_of 0 n i (omega (arith, length_hours 0 n))

-- the largest file of an accepted table has 36,882 bytes: no file is larger (`file_most`), and this one has so many
pub largest_file : (t : List ℕ) × Accepted t 2 × (length (file_of t 2) ≡ 36882)
largest_file = (hours 0 2048, hours_accepted 2048 (omega arith), omega (arith, length_file (hours 0 2048) 2, length_hours 0 2048))

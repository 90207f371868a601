-- Linking and unlinking two gauges, and the graph of a line of runs, one run after another. Assumes nothing.
use mathlib.Core.Logic.{◌⊎◌, inl, inr, ⊎_elim, dite}
use mathlib.Core.Path.{◌≡◌, sym, ap, subst, ◌∙◌}
use mathlib.Core.List.{List}
use Prim.Native.Nat.{ℕ, ◌-◌, ◌^◌, ◌<◌}
use native.Mathlib.Decide.{ℕ_discrete}
use native.Mathlib.Omega.{arith}
use lib.Bits.{bit_and, bit_or}
use lib.ListN.{length, set, length-set}
use lib.Seq.{get_or-set_same, get_or-set_other}
use Rattle.gauges.specs.Sets.{Member, Only}
use Rattle.gauges.proofs.Laws.{or_left, or_right, or_cases, without_in, without_left, without_right}
use Rattle.sweep.specs.Near.{near}
use Rattle.sweep.specs.Graphs.{TwoGauges, SamePair, in_order, turned, Won, Lost}

-- ---- two rows are written

module _ (adj : List ℕ) (u v a b : ℕ) (G : TwoGauges u v) (sized : length adj ≡ 64) where
  abbrev written : List ℕ
  written = set (set adj u a) v b

  written_size : length written ≡ length adj
  written_size = length-set (set adj u a) v b ∙ length-set adj u a

  -- what row i is now
  data RowIs (i : ℕ) : Type 0 where
    is_one : i ≡ u → near written i ≡ a → RowIs i
    is_other : i ≡ v → near written i ≡ b → RowIs i
    is_old : (i ≡ u → ⊥) → (i ≡ v → ⊥) → near written i ≡ near adj i → RowIs i

  row_is : (i : ℕ) → RowIs i
  row_is i = dite (ℕ_discrete i v)
      (λ e. is_other e (ap (near written) e ∙ get_or-set_same (set adj u a) v b 0 (omega (arith, length-set adj u a, sized, G.other))))
      (λ d. dite (ℕ_discrete i u)
      (λ e. is_one e (get_or-set_other (set adj u a) v i b 0 d ∙ ap (near (set adj u a)) e ∙ get_or-set_same adj u a 0 (omega (arith, sized, G.one))))
      (λ f. is_old f d (get_or-set_other (set adj u a) v i b 0 d ∙ get_or-set_other adj u i a 0 f)))

-- a member of a set is one of an equal set
moved : (j : ℕ) {m n : ℕ} → m ≡ n → Member j m → Member j n
moved j e h = subst (Member j) e h

as_gauge : (m : ℕ) {i j : ℕ} → i ≡ j → Member i m → Member j m
as_gauge m e h = subst (λ (k : ℕ). Member k m) e h

-- a and b are the rows of u and v, ou and ov the sets of u and v alone
module _ {adj : List ℕ} {u v a b ou ov : ℕ} (G : TwoGauges u v) (sized : length adj ≡ 64) (row-u : a ≡ near adj u) (row-v : b ≡ near adj v) (only-u : Only u ou) (only-v : Only v ov) where
  pub link_linked : Won adj (set (set adj u (bit_or a ov)) v (bit_or b ou)) (SamePair u v)
  link_linked =
      record {
        size = written_size adj u v a' b' G sized;
        kept = λ i j h. keep i j h (row_is adj u v a' b' G sized i);
        new = λ i j s. put i j s (row_is adj u v a' b' G sized i);
        only = λ i j h. which i j h (row_is adj u v a' b' G sized i);
      }
    where
      a' : ℕ
      a' = bit_or a ov

      b' : ℕ
      b' = bit_or b ou

      keep : (i j : ℕ) → Member j (near adj i) → RowIs adj u v a' b' G sized i → Member j (near (set (set adj u a') v b') i)
      keep i j h (is_one e w) = moved j (sym w) (or_left a ov j (moved j (ap (near adj) e ∙ sym row-u) h))
      keep i j h (is_other e w) = moved j (sym w) (or_left b ou j (moved j (ap (near adj) e ∙ sym row-v) h))
      keep i j h (is_old f g w) = moved j (sym w) h

      put : (i j : ℕ) → SamePair u v i j → RowIs adj u v a' b' G sized i → Member j (near (set (set adj u a') v b') i)
      put i j (in_order p q) (is_one e w) = moved j (sym w) (or_right a ov j (as_gauge _ (sym q) (only-v.there G.other)))
      put i j (in_order p q) (is_other e w) = absurd (G.two (sym p ∙ e))
      put i j (in_order p q) (is_old f g w) = absurd (f p)
      put i j (turned p q) (is_one e w) = absurd (G.two (sym e ∙ p))
      put i j (turned p q) (is_other e w) = moved j (sym w) (or_right b ou j (as_gauge _ (sym q) (only-u.there G.one)))
      put i j (turned p q) (is_old f g w) = absurd (g p)

      which : (i j : ℕ) → Member j (near (set (set adj u a') v b') i) → RowIs adj u v a' b' G sized i → Member j (near adj i) ⊎ SamePair u v i j
      which i j h (is_one e w) = ⊎_elim (λ x. inl (moved j (row-u ∙ ap (near adj) (sym e)) x)) (λ x. inr (in_order e (only-v.just j x))) (or_cases a ov j (moved j w h))
      which i j h (is_other e w) = ⊎_elim (λ x. inl (moved j (row-v ∙ ap (near adj) (sym e)) x)) (λ x. inr (turned e (only-u.just j x))) (or_cases b ou j (moved j w h))
      which i j h (is_old f g w) = inl (moved j w h)

  pub part_parted : a < 2 ^ 64 → b < 2 ^ 64 → ou < 2 ^ 64 → ov < 2 ^ 64
      → Lost adj (set (set adj u (bit_and a ((2 ^ 64 - 1) - ov))) v (bit_and b ((2 ^ 64 - 1) - ou))) (SamePair u v)
  part_parted la lb lu lv =
      record {
        size = written_size adj u v a' b' G sized;
        kept = λ i j h f. keep i j h f (row_is adj u v a' b' G sized i);
        gone = λ i j s h. out i j s h (row_is adj u v a' b' G sized i);
        only = λ i j h. old i j h (row_is adj u v a' b' G sized i);
      }
    where
      a' : ℕ
      a' = bit_and a ((2 ^ 64 - 1) - ov)

      b' : ℕ
      b' = bit_and b ((2 ^ 64 - 1) - ou)

      keep : (i j : ℕ) → Member j (near adj i) → (SamePair u v i j → ⊥) → RowIs adj u v a' b' G sized i → Member j (near (set (set adj u a') v b') i)
      keep i j h f (is_one e w) =
          moved j (sym w) (without_in a ov j 64 la lv (moved j (ap (near adj) e ∙ sym row-u) h) (λ x. f (in_order e (only-v.just j x))))
      keep i j h f (is_other e w) =
          moved j (sym w) (without_in b ou j 64 lb lu (moved j (ap (near adj) e ∙ sym row-v) h) (λ x. f (turned e (only-u.just j x))))
      keep i j h f (is_old d g w) = moved j (sym w) h

      out : (i j : ℕ) → SamePair u v i j → Member j (near (set (set adj u a') v b') i) → RowIs adj u v a' b' G sized i → ⊥
      out i j (in_order p q) h (is_one e w) = without_right a ov j 64 lv (moved j w h) (as_gauge _ (sym q) (only-v.there G.other))
      out i j (in_order p q) h (is_other e w) = G.two (sym p ∙ e)
      out i j (in_order p q) h (is_old f g w) = f p
      out i j (turned p q) h (is_one e w) = G.two (sym e ∙ p)
      out i j (turned p q) h (is_other e w) = without_right b ou j 64 lu (moved j w h) (as_gauge _ (sym q) (only-u.there G.one))
      out i j (turned p q) h (is_old f g w) = g p

      old : (i j : ℕ) → Member j (near (set (set adj u a') v b') i) → RowIs adj u v a' b' G sized i → Member j (near adj i)
      old i j h (is_one e w) = moved j (row-u ∙ ap (near adj) (sym e)) (without_left a ov j 64 (moved j w h))
      old i j h (is_other e w) = moved j (row-v ∙ ap (near adj) (sym e)) (without_left b ou j 64 (moved j w h))
      old i j h (is_old f g w) = moved j w h

-- The laws of `Added`: rows added behind others compose, what `append` does on its two ways out, and what the rows of a span come to when they are put in
-- order. Assumes nothing.
use mathlib.Core.Logic.{◌⊎◌, inl, inr, ⊎_elim, dite}
use mathlib.Core.Path.{◌≡◌, refl, sym, ap, subst, ◌∙◌}
use mathlib.Core.List.{List}
use Prim.Native.Nat.{ℕ, ◌+◌, ◌*◌, ◌≤◌, ◌<◌}
use native.Mathlib.Nat.{le_refl, le_trans, lt_of_lt_of_le}
use native.Mathlib.Decide.{ℕ_discrete, dec_lt}
use native.Mathlib.Omega.{arith}
use lib.ListN.{length}
use Rattle.std.specs.Prelude.{Result, Ok, Err, MatchResult}
use Rattle.std.specs.Result.{result_unwrap_or}
use Rattle.cliques.specs.Groups.{Row}
use Rattle.cliques.specs.Lists.{Before, by_begin, by_end, by_members}
use Rattle.cliques.specs.Buffers.{row, whole_rows}
use Rattle.cliques.proofs.Order.{before_differ}
use Rattle.cliques.proofs.Rows.{same_row}
use Rattle.sweep.specs.declared.store.Full.{Full}
use Rattle.sweep.specs.Store.{Held, Tidy, Grown, Grows, Loose, Added, Adds, Outgrown, Written, Unseen, Past, Earlier, sooner, shorter}
use Rattle.sweep.specs.Blocks.{set_at, spanning}
use Rattle.sweep.proofs.Blocks.{SettlesIn, SettledIn}
use Rattle.sweep.proofs.Puts.{written_low}
use Rattle.sweep.proofs.Stores.{held_on, missing_as}

-- rows in order stand apart
pub tidy_loose : {out : List ℕ} {n : ℕ} → Tidy out n → Loose out n
tidy_loose t = record { fits = t.fits; apart = λ i j h l. before_differ (t.ordered i j h l) }

module _ {A R : Row → Type 0} {o o' : List ℕ} {n n' : ℕ} (g : Added A R o n o' n') where
  -- what was there is there
  pub added_kept : (c : Row) → Held o n c → Held o' n' c
  added_kept = held_on g.same g.more

  -- what is there was there or was added
  pub added_sound : (c : Row) → Held o' n' c → Held o n c ⊎ A c
  added_sound c h = dite (dec_lt h.place n)
      (λ l. inl (record { place = h.place; there = l; is = sym (g.same h.place l) ∙ h.is }))
      (λ l. inr (subst A h.is (g.new h.place (omega arith) h.there)))

-- nothing was done, and nothing is required
pub added_none : {A : Row → Type 0} {out : List ℕ} {n : ℕ} → Loose out n → Added A (λ _. ⊥) out n out n
added_none {n = n} t =
    record {
      loose = t;
      same = λ i h. refl;
      new = λ i h l. absurd (omega arith);
      complete = λ c z. absurd z;
      more = le_refl n;
      size = refl;
      rest = λ i h. refl;
    }

-- other bounds for the same rows: more may be added, and what is required is there for another reason
pub added_as : {A B R C : Row → Type 0} {o o' : List ℕ} {n n' : ℕ}
    → Added A R o n o' n' → ((c : Row) → A c → B c) → ((c : Row) → C c → Held o' n' c) → Added B C o n o' n'
added_as {o' = o'} g wider all =
    record {
      loose = g.loose;
      same = g.same;
      new = λ i h l. wider (row o' i) (g.new i h l);
      complete = all;
      more = g.more;
      size = g.size;
      rest = g.rest;
    }

-- where no row is wanted nothing is to be done
pub none_added : {A : Row → Type 0} {o : List ℕ} {n : ℕ} → Loose o n → ((c : Row) → A c → ⊥) → Added A A o n o n
none_added {A} t none = added_as (added_none {A = A} t) (λ c a. a) (λ c a. absurd (none c a))

-- the same of an answer
pub adds_as : {A B : Row → Type 0} (o : List ℕ) (n : ℕ) (o' : List ℕ) → ((c : Row) → A c → B c) → ((n' : ℕ) → ((c : Row) → A c → Held o' n' c) → (c : Row) → B c → Held o' n' c)
    → (r : Result ℕ Full) → Adds A o n o' r → Adds B o n o' r
adds_as o n o' wider all (Ok n') g = added_as g wider (all n' g.complete)
adds_as o n o' wider all (Err e) w = (added_as w.0 wider (λ c z. absurd z), missing_as wider w.1)

-- Rows added after others: what either may add may be added, and what either requires is there.
pub added_trans : {A A' B R R' C : Row → Type 0} {o₀ o₁ o₂ : List ℕ} {n₀ n₁ n₂ : ℕ}
    → Added A R o₀ n₀ o₁ n₁ → Added A' R' o₁ n₁ o₂ n₂
    → ((c : Row) → A c → B c) → ((c : Row) → A' c → B c) → ((c : Row) → C c → R c ⊎ R' c)
    → Added B C o₀ n₀ o₂ n₂
added_trans {B = B} {o₂ = o₂} {n₁ = n₁} g h left right parts =
    record {
      loose = h.loose;
      same = λ i l. h.same i (lt_of_lt_of_le l g.more) ∙ g.same i l;
      new = λ i l m. dite (dec_lt i n₁)
          (λ k. subst B (sym (h.same i k)) (left _ (g.new i l k)))
          (λ k. right (row o₂ i) (h.new i (omega arith) m));
      complete = λ c z. ⊎_elim (λ y. added_kept h c (g.complete c y)) (h.complete c) (parts c z);
      more = le_trans g.more h.more;
      size = h.size ∙ g.size;
      rest = λ i l. h.rest i l ∙ g.rest i (omega (arith, h.more));
    }

-- The same where the later step answers: the rows of both are there, or what both may add found no room.
pub adds_trans : {A A' B R R' C : Row → Type 0} {o₀ o₁ : List ℕ} {n₀ n₁ : ℕ}
    → Added A R o₀ n₀ o₁ n₁ → ((c : Row) → A c → B c) → ((c : Row) → A' c → B c) → ((c : Row) → C c → R c ⊎ R' c)
    → (o₂ : List ℕ) (r : Result ℕ Full) → MatchResult r (λ n₂. Added A' R' o₁ n₁ o₂ n₂) (λ _. Outgrown A' o₁ n₁ o₂)
    → MatchResult r (λ n₂. Added B C o₀ n₀ o₂ n₂) (λ _. Outgrown B o₀ n₀ o₂)
adds_trans g left right parts o₂ (Ok n₂) h = added_trans g h left right parts
adds_trans g left right parts o₂ (Err e) w = (added_trans g w.0 left right (λ c z. absurd z), missing_as right w.1)

-- ---- the ways out of `append`

module _ {out : List ℕ} {n : ℕ} (t : Loose out n) (c : Row) (absent : Held out n c → ⊥) where
  -- c has no room
  pub append_no_room : length out < 3 * n + 3 → Outgrown (λ (d : Row). d ≡ c) out n out
  append_no_room h =
      let full : n ≡ whole_rows out = omega (arith, t.fits) in (
        subst (Added (λ (d : Row). d ≡ c) (λ _. ⊥) out n out) full (added_none t),
        record { extra = c; wanted = refl; absent = subst (λ (k : ℕ). Held out k c → ⊥) full absent },
      )

  -- c is put behind the others
  pub append_added : {out' : List ℕ} → Written out out' n c → 3 * n + 3 ≤ length out → Added (λ (d : Row). d ≡ c) (λ (d : Row). d ≡ c) out n out' (n + 1)
  append_added {out'} w h =
      record {
        loose = record {
          fits = omega (arith, w.size);
          apart = λ i j k l q. dite (ℕ_discrete j n)
              (λ z. absent (record { place = i; there = omega arith; is = sym (written_low w i (omega arith)) ∙ q ∙ at_end j z }))
              (λ z. t.apart i j k (omega arith) (sym (written_low w i (omega arith)) ∙ q ∙ written_low w j (omega arith)));
        };
        same = λ i l. written_low w i l;
        new = λ i k l. at_end i (omega arith);
        complete = λ d z. record { place = n; there = omega arith; is = w.is ∙ sym z };
        more = omega arith;
        size = w.size;
        rest = λ i k. w.others i (inr (omega arith));
      }
    where
      at_end : (j : ℕ) → j ≡ n → row out' j ≡ c
      at_end j z = ap (row out') z ∙ w.is

-- ---- the rows of a span are found, and put in order

-- a span that stands after each row found has none among them
pub past_unseen : {out : List ℕ} {n : ℕ} {x y : ℕ} → Past out n x y → Unseen out n x y
past_unseen {x = x} {y = y} p = record { unseen = λ c b e h. earlier (p.past c h) b e }
  where
    earlier : {c : Row} → Earlier c x y → c.begin ≡ x → c.end ≡ y → ⊥
    earlier (sooner h) b e = omega arith
    earlier (shorter _ h) b e = omega arith

-- a row whose span stands before comes before each row of the span
earlier_before : {c d : Row} {x y : ℕ} → Earlier c x y → d.begin ≡ x → d.end ≡ y → Before c d
earlier_before (sooner h) b e = by_begin (omega arith)
earlier_before (shorter f h) b e = by_end (f ∙ sym b) (omega arith)

module _ {A R : Row → Type 0} {out out₁ : List ℕ} {n n' : ℕ} (g : Added A R out n out₁ n') {x y : ℕ} (from : (c : Row) → A c → c.begin ≡ x) (upto : (c : Row) → A c → c.end ≡ y) where
  -- the rows that were added have the span, ..
  added_is : (k : ℕ) → n ≤ k → k < n' → row out₁ k ≡ spanning x y (set_at out₁ k)
  added_is k h l = same_row {c = row out₁ k} {d = spanning x y (set_at out₁ k)} (from (row out₁ k) (g.new k h l)) (upto (row out₁ k) (g.new k h l)) refl

  -- so they can be put in order
  pub added_settles : SettlesIn out₁ n n' x y
  added_settles =
      record {
        order = g.more;
        fits = g.loose.fits;
        is = added_is;
        apart = λ i j h l m e. g.loose.apart i j l m (added_is i h (omega arith) ∙ ap (spanning x y) e ∙ sym (added_is j (omega arith) m));
      }

  -- putting them in order leaves the rows before them, ..
  settled_low : {out₂ : List ℕ} → SettledIn out₁ out₂ n n' x y → (k : ℕ) → k < n → row out₂ k ≡ row out₁ k
  settled_low {out₂} s k h = same_row {c = row out₂ k} {d = row out₁ k}
      (s.kept.outside (3 * k) (inl (omega arith))) (s.kept.outside (3 * k + 1) (inl (omega arith))) (s.kept.outside (3 * k + 2) (inl (omega arith)))

  -- and each row that stands then was there
  pub settled_back : {out₂ : List ℕ} → SettledIn out₁ out₂ n n' x y → (c : Row) → Held out₂ n' c → Held out₁ n' c
  settled_back s c h = dite (dec_lt h.place n)
      (λ l. record { place = h.place; there = h.there; is = sym (settled_low s h.place l) ∙ h.is })
      (λ l. let w = s.stood h.place (omega arith) h.there in
      record { place = w.0; there = w.2; is = added_is w.0 w.1 w.2 ∙ ap (spanning x y) w.3 ∙ sym (s.is h.place (omega arith) h.there) ∙ h.is })

  -- rows added behind rows in order, all of a later span, and put in order
  pub settled : {out₂ : List ℕ} → Tidy out n → Past out n x y → SettledIn out₁ out₂ n n' x y → Grown A R out n out₂ n'
  settled {out₂} t p s =
      record {
        tidy = record {
          fits = omega (arith, s.kept.size, g.loose.fits);
          ordered = ordered;
        };
        same = λ i h. low i h ∙ g.same i h;
        sound = λ c h. added_sound g c (settled_back s c h);
        complete = λ c r. on c (g.complete c r);
        more = g.more;
        size = s.kept.size ∙ g.size;
        rest = λ i h. s.kept.outside i (inr h) ∙ g.rest i h;
      }
    where
      low : (k : ℕ) → k < n → row out₂ k ≡ row out₁ k
      low = settled_low s

      ordered : (i j : ℕ) → i < j → j < n' → Before (row out₂ i) (row out₂ j)
      ordered i j h l = dite (dec_lt j n)
          (λ m. subst (λ (c : Row). Before c (row out₂ j)) (sym (low i (omega arith) ∙ g.same i (omega arith)))
          (subst (λ (c : Row). Before (row out i) c) (sym (low j m ∙ g.same j m)) (t.ordered i j h m)))
          (λ m.
          let e = s.is j (omega arith) l in
          subst (λ (c : Row). Before (row out₂ i) c) (sym e) (dite (dec_lt i n)
          (λ k. subst (λ (c : Row). Before c (spanning x y (set_at out₂ j))) (sym (low i k ∙ g.same i k))
          (earlier_before (p.past (row out i) (record { place = i; there = k; is = refl })) refl refl))
          (λ k. subst (λ (c : Row). Before c (spanning x y (set_at out₂ j))) (sym (s.is i (omega arith) (omega arith)))
          (by_members refl refl (s.rising i j (omega arith) h l)))))

      on : (c : Row) → Held out₁ n' c → Held out₂ n' c
      on c h = dite (dec_lt h.place n)
          (λ l. record { place = h.place; there = h.there; is = low h.place l ∙ h.is })
          (λ l. let w = s.there h.place (omega arith) h.there in
          record { place = w.0; there = w.2; is = s.is w.0 w.1 w.2 ∙ ap (spanning x y) w.3 ∙ sym (added_is h.place (omega arith) h.there) ∙ h.is })

-- the rows after an answer are as many as it says, or where room ran out as many as the buffer has
module _ {A : Row → Type 0} {x y : ℕ} (from : (c : Row) → A c → c.begin ≡ x) (upto : (c : Row) → A c → c.end ≡ y) (out : List ℕ) {n : ℕ} {out₁ : List ℕ} {end : ℕ} where
  adds_left : (r : Result ℕ Full) → end ≡ result_unwrap_or r (whole_rows out₁) → Adds A out n out₁ r → Added A (λ _. ⊥) out n out₁ end
  adds_left (Ok n') e g = subst (Added A (λ _. ⊥) out n out₁) (sym e) (added_as g (λ c a. a) (λ c z. absurd z))
  adds_left (Err _) e w = subst (Added A (λ _. ⊥) out n out₁) (sym e) w.0

  -- they can be put in order, ..
  pub adds_settles : (r : Result ℕ Full) → end ≡ result_unwrap_or r (whole_rows out₁) → Adds A out n out₁ r → SettlesIn out₁ n end x y
  adds_settles r e g = added_settles (adds_left r e g) from upto

  -- and what was added behind rows of earlier spans is among them in order then
  pub adds_settled : {out₂ : List ℕ} → Tidy out n → Past out n x y
      → (r : Result ℕ Full) → end ≡ result_unwrap_or r (whole_rows out₁) → Adds A out n out₁ r → SettledIn out₁ out₂ n end x y → Grows A out n out₂ r
  adds_settled {out₂} t p (Ok n') e g s = settled g from upto t p (subst (λ (k : ℕ). SettledIn out₁ out₂ n k x y) e s)
  adds_settled {out₂} t p (Err z) e w s =
      let g = adds_left (Err z) e w in
      let full : end ≡ whole_rows out₂ = omega (arith, e, s.kept.size) in
      let back : Held out₂ end w.1.extra → Held out₁ (whole_rows out₁) w.1.extra = λ h. subst (λ (k : ℕ). Held out₁ k w.1.extra) e (settled_back g from upto s w.1.extra h) in (
        subst (Grown A (λ _. ⊥) out n out₂) full (settled g from upto t p s),
        record { extra = w.1.extra; wanted = w.1.wanted; absent = λ h. w.1.absent (back (subst (λ (k : ℕ). Held out₂ k w.1.extra) (sym full) h)) },
      )

-- The pair test: what its loop keeps, and that its reply is the only one. Assumes nothing.
use mathlib.Core.Logic.{dite}
use mathlib.Core.Path.{◌≡◌, refl, sym, ap}
use mathlib.Core.Bool.{true≢false}
use mathlib.Core.List.{List}
use Rattle.std.specs.Prelude.{Option, is_none, true, false, Some as This, None as Nothing}
use Prim.Native.Nat.{ℕ, ◌≤◌}
use native.Mathlib.Decide.{dec_le}
use native.Mathlib.Omega.{arith}
use Rattle.links.specs.Links.{Covers, Joined}
use Rattle.links.specs.Replies.{LastCover, CoverOf}

module _ (t : List ℕ) (u v x y : ℕ) where
  -- no link from number n on covers the span
  pub record NoneFrom (n : ℕ) : Type 0 where
    pub none : (j : ℕ) → n ≤ j → Covers t u v x y j → ⊥

  last_one : {i j : ℕ} → LastCover t u v x y i → LastCover t u v x y j → i ≤ j
  last_one {i} {j} p q = dite (dec_le i j) (λ h. h) (λ h. absurd (q.last i (omega arith) p.covers))

  -- no second reply fits the pair test
  pub cover_one : (a b : Option ℕ) → CoverOf t u v x y a → CoverOf t u v x y b → a ≡ b
  cover_one (This i) (This j) p q = ap This (let below : i ≤ j = last_one p q in let above : j ≤ i = last_one q p in omega arith)
  cover_one (This i) Nothing p q = absurd (q (record { link = i; covers = p.covers }))
  cover_one Nothing (This j) p q = absurd (p (record { link = j; covers = q.covers }))
  cover_one Nothing Nothing p q = refl

  -- it names a link exactly if the pair is joined throughout
  pub link_joined : (i : ℕ) → CoverOf t u v x y (This i) → Joined t u v x y
  link_joined i p = record { link = i; covers = p.covers }

  pub joined_link : (r : Option ℕ) → CoverOf t u v x y r → Joined t u v x y → (i : ℕ) × (r ≡ This i)
  joined_link (This i) p j = (i, refl)
  joined_link Nothing p j = absurd (p j)

  -- whether it names none says so
  pub some_joined : (r : Option ℕ) → CoverOf t u v x y r → is_none r ≡ false → Joined t u v x y
  some_joined (This i) p e = link_joined i p
  some_joined Nothing p e = absurd (true≢false e)

  pub none_unjoined : (r : Option ℕ) → CoverOf t u v x y r → is_none r ≡ true → Joined t u v x y → ⊥
  none_unjoined (This i) p e = absurd (true≢false (sym e))
  none_unjoined Nothing p e = p

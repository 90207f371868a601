-- What is needed of "joined throughout": it goes both ways, narrows to a smaller span, is decided, and stays as it is when links are added, rearranged or turned.
-- All of it is what holds of spans that one link covers. Assumes nothing.
use mathlib.Core.List.{List}
use Prim.Native.Nat.{ℕ, ◌≤◌}
use Rattle.links.specs.Links.{Joined, Rearranged, Extends}
use Rattle.links.proofs.Pairs.{covered_sym, covered_narrow, covered_dec}
use Rattle.links.proofs.Orders.{covered_extends, covered_rearranged}

module _ {t : List ℕ} {u v x y : ℕ} where
  pub joined_sym : Joined t u v x y → Joined t v u x y
  joined_sym j = covered_sym j

  pub joined_narrow : {x' y' : ℕ} → x ≤ x' → x' ≤ y' → y' ≤ y → Joined t u v x y → Joined t u v x' y'
  joined_narrow l m r j = covered_narrow l m r j

  pub joined_extends : {t' : List ℕ} → Extends t t' → Joined t u v x y → Joined t' u v x y
  joined_extends E j = covered_extends E j

  pub joined_rearranged : {t' : List ℕ} → Rearranged t t' → Joined t u v x y → Joined t' u v x y
  joined_rearranged R j = covered_rearranged R j

pub joined_dec : (t : List ℕ) (u v x y : ℕ) → Dec (Joined t u v x y)
joined_dec t u v x y = covered_dec t u v x y

-- Cliques as lists of gauges, by tests of which gauges are near one another over a span: all cliques of some gauges, and the test that one cannot be one step larger.
-- The rows that pass are those that are `Local`. Assumes nothing.
use mathlib.Core.Bool.{Bool, true, not, ◌&&◌, ◌||◌}
use mathlib.Core.List.Memᴰ.{cases_cons as in-cases}
use mathlib.Core.List.Memᴰ.{head as first}
use mathlib.Core.List.Memᴰ.{not-nil as in-none}
use mathlib.Core.List.Memᴰ.{tail as later}
use mathlib.Core.List.{List, [], ◌∷◌, ◌++◌, Memᴰ as In}
use mathlib.Core.Logic.{◌⊎◌, inl, inr, ⊎_elim}
use mathlib.Core.Path.{◌≡◌, refl, sym, ap, subst, ◌∙◌}
use Prim.Native.Nat.{ℕ, suc, ◌^◌, ◌≤◌, ◌<◌}
use native.Mathlib.Omega.{arith}
use lib.Count.{ones}
use Rattle.gauges.specs.Flags.{Tells}
use Rattle.gauges.specs.Sets.{Member, set_of, Within}
use Rattle.gauges.proofs.Flags.{flag_or, told_true, tells_as, tells_not, tells_and, tells_or}
use Rattle.gauges.proofs.Laws.{tells_member, member_pow, or_left, or_right, member_ext}
use Rattle.cliques.specs.Families.{Family}
use Rattle.cliques.specs.Groups.{Row, Clique}
use Rattle.cliques.proofs.Rows.{same_row, with_gauge}
use Rattle.cliques.proofs.Cliques.{Near, near_same, near_flip, clique_near, other_member, wider}
use Rattle.cliques.proofs.Local.{Local}
use Rattle.cliques.proofs.Tests.{all, pairs, tells_all, tells_pairs, elem, tells_elem}
use Rattle.cliques.proofs.Sorting.{keep, keep_in, in_keep, each, each_in, in_each, picked, picked_in, in_picked}
use Rattle.cliques.proofs.Masks.{mask, mask_in, in_mask, two, tells_two}

-- ---- what computes

-- the row of a span and a list of gauges
abbrev pub row_of : ℕ → ℕ → List ℕ → Row
row_of x y l = record { begin = x; end = y; members = mask l }

module _ (near : ℕ → ℕ → Bool) where
  -- the lists of gauges of gs that are near one another
  unfoldable pub cliques : List ℕ → List (List ℕ)
  cliques [] = [] ∷ []
  cliques (k ∷ gs) = let f = near k in each (λ (l : List ℕ). l ∷ keep (all f l) (k ∷ l)) (cliques gs)

  -- no further gauge of gs is near all of l
  unfoldable pub stuck : List ℕ → List ℕ → Bool
  stuck gs l = all (λ (k : ℕ). let r = not (all (near k) l) in elem k l || r) gs

-- the clique l cannot be one step larger: it has two gauges, is none from an hour earlier nor to an hour later, and no gauge of gs is near all of it
unfoldable pub good : (List ℕ → Bool) → (ℕ → ℕ → Bool) → (ℕ → ℕ → Bool) → List ℕ → List ℕ → Bool
unfolding stuck
good early now late gs l =
    let d = stuck now gs l in
    let c = not (pairs late l) && d in
    let b = early l && c in
    two l && b

-- the groups over [x, y], by these tests and the gauges that are joined throughout it
unfoldable pub rows_by : (List ℕ → Bool) → (ℕ → ℕ → Bool) → (ℕ → ℕ → Bool) → List ℕ → ℕ → ℕ → List Row
unfolding cliques good
rows_by early now late gs x y = each (λ (l : List ℕ). keep (good early now late gs l) (row_of x y l)) (cliques now gs)

-- ---- lists of gauges that are near one another

-- all of a list of gauges are near one another
abbrev pub AllNear : Family → ℕ → ℕ → List ℕ → Type 0
AllNear J x y l = (u v : ℕ) → In u l → In v l → Near J x y u v

-- a list of gauges that are near one another, two of them different, is a clique
near_clique : {J : Family} {g x y : ℕ} (l : List ℕ) → x ≤ y → ((k : ℕ) → In k l → k < g) → 2 ≤ ones (mask l) → AllNear J x y l → Clique J g (row_of x y l)
near_clique l s known two near =
    record {
      span = s;
      known = λ k m. known k (in_mask l k m);
      two = two;
      joined = λ u v p q h. (near u v (in_mask l u p) (in_mask l v q)).up h;
    }

-- ---- what a test of nearness tells of lists of gauges

module _ {J : Family} {x y : ℕ} {f : ℕ → ℕ → Bool} (T : (u v : ℕ) → Tells (f u v) (Near J x y u v)) where
  -- all pairs of a list, ..
  pub tells_clique : (l : List ℕ) → Tells (pairs f l) (AllNear J x y l)
  tells_clique l = tells_pairs T (near_same x y) (near_flip x y) l

  -- and a further gauge
  tells_stuck : (gs l : List ℕ) → Tells (stuck f gs l) ((k : ℕ) → In k gs → In k l ⊎ (((v : ℕ) → In v l → Near J x y k v) → ⊥))
  unfolding stuck
  tells_stuck gs l = tells_all (λ k. tells_or (tells_elem k l) (tells_not (tells_all (T k) l))) gs

  -- the lists of gauges are near one another, and of gauges of gs
  cliques_near : (gs l : List ℕ) → In l (cliques f gs) → (pairs f l ≡ true) × ((k : ℕ) → In k l → In k gs)
  unfolding cliques
  cliques_near [] l i = ⊎_elim (λ e. (ap (pairs f) e, λ k j. absurd (in-none (subst (In k) e j)))) (λ j. absurd (in-none j)) (in-cases i)
  cliques_near (g ∷ gs) l i =
      let w = in_each (λ (m : List ℕ). m ∷ keep (all (f g) m) (g ∷ m)) (cliques f gs) i in
      let old = cliques_near gs w.0 w.1 in
      ⊎_elim
      (λ e. (ap (pairs f) e ∙ old.0, λ k j. later (old.1 k (subst (In k) e j))))
      (λ j.
      let s = in_keep (all (f g) w.0) (g ∷ w.0) j in
      (ap (pairs f) s.1 ∙ ap (λ (b : Bool). b && pairs f w.0) s.0 ∙ old.0, λ k p. ⊎_elim first (λ q. later (old.1 k q)) (in-cases (subst (In k) s.1 p))))
      (in-cases w.2)

  -- and all of them: the members of a set that are near one another are one of the lists
  near_cliques : (m : ℕ) (gs : List ℕ) → ((u v : ℕ) → Member u m → Member v m → Near J x y u v) → In (picked (set_of m) gs) (cliques f gs)
  unfolding cliques
  near_cliques m [] n = first refl
  near_cliques m (g ∷ gs) n =
      let p : List ℕ = picked (set_of m) gs in
      let old = near_cliques m gs n in
      let more : List ℕ → List (List ℕ) = λ l. l ∷ keep (all (f g) l) (g ∷ l) in
      let is : Bool → Type 0 = λ b. In (keep b g ++ p) (each more (cliques f gs)) in
      ⊎_elim
      (λ e.
      let near : (v : ℕ) → In v p → Near J x y g v = λ v i. n g v ((tells_member g m).holds e) ((tells_member v m).holds (in_picked (set_of m) gs i).0) in
      subst is (sym e) (each_in more old (later (keep_in (all (f g) p) (g ∷ p) (told_true (tells_all (T g) p) near)))))
      (λ e. subst is (sym e) (each_in more old (first refl)))
      (flag_or (set_of m g))

-- ---- the test of a clique is that it cannot be one step larger

-- gs has the gauges below g that are joined to another throughout [x, y], and none from g on
pub record Pool (J : Family) (g x y : ℕ) (gs : List ℕ) : Type 0 where
  pub below : (k : ℕ) → In k gs → k < g
  pub known : (k v : ℕ) → k < g → (k ≡ v → ⊥) → Near J x y k v → In k gs

-- so it has those of a clique
pool_member : {J : Family} {g : ℕ} {c : Row} {gs : List ℕ} → Pool J g c.begin c.end gs → Clique J g c → (k : ℕ) → Member k c.members → In k gs
pool_member P K k m = let w = other_member K k in P.known k w.0 (K.known k m) w.1 (clique_near K k w.0 m w.2)

-- the clique l over [x, y] has two different gauges, is none from an hour earlier nor to an hour later, and no gauge of gs is near all of it
record Fixed (J : Family) (gs : List ℕ) (x y : ℕ) (l : List ℕ) : Type 0 where
  several : 2 ≤ ones (mask l)
  not_earlier : (z : ℕ) → suc z ≡ x → AllNear J z y l → ⊥
  not_later : AllNear J x (suc y) l → ⊥
  not_further : (k : ℕ) → In k gs → In k l ⊎ (((v : ℕ) → In v l → Near J x y k v) → ⊥)

module _ {J : Family} {g x y : ℕ} {gs : List ℕ} (P : Pool J g x y gs) (s : x ≤ y) where
  module _ (l : List ℕ) (sub : (k : ℕ) → In k l → In k gs) (n : AllNear J x y l) where
    -- its gauges are below g
    small : (k : ℕ) → In k l → k < g
    small k i = P.below k (sub k i)

    -- a clique with a gauge that is near all of it is a clique
    with_near : (k : ℕ) → k < g → 2 ≤ ones (mask l) → ((v : ℕ) → In v l → Near J x y k v) → Clique J g (with_gauge (row_of x y l) k)
    with_near k h t f = wider (near_clique l s small t n) k h (λ v m. f v (in_mask l v m))

    -- a clique that passes the test cannot be one step larger, and the other way round
    fixed_local : Fixed J gs x y l → Local J g (row_of x y l)
    fixed_local f =
        record {
          clique = near_clique l s small f.several n;
          no_further = λ k o K.
              let m = or_right (mask l) (2 ^ k) k (member_pow k) in
              ⊎_elim (λ i. o (mask_in l k i))
              (λ h. h (λ v i. clique_near K k v m (or_left (mask l) (2 ^ k) v (mask_in l v i))))
              (f.not_further k (pool_member P K k m));
          no_earlier = λ z e K. f.not_earlier z e (λ u v i j. clique_near K u v (mask_in l u i) (mask_in l v j));
          no_later = λ K. f.not_later (λ u v i j. clique_near K u v (mask_in l u i) (mask_in l v j));
        }

    local_fixed : Local J g (row_of x y l) → Fixed J gs x y l
    local_fixed C =
        let t = C.clique.two in
        record {
          several = t;
          not_earlier = λ z e a. C.no_earlier z e (near_clique l (omega arith) small t a);
          not_later = λ a. C.no_later (near_clique l (omega arith) small t a);
          not_further = λ k i. ⊎_elim (λ e. inl ((tells_elem k l).holds e))
              (λ e. inr (λ f. C.no_further k (λ m. (tells_elem k l).fails e (in_mask l k m)) (with_near k (P.below k i) t f)))
              (flag_or (elem k l));
        }

  module _ {b : List ℕ → Bool} {f e : ℕ → ℕ → Bool} (B : (l : List ℕ) → Tells (b l) ((z : ℕ) → suc z ≡ x → AllNear J z y l → ⊥))
      (T : (u v : ℕ) → Tells (f u v) (Near J x y u v)) (E : (u v : ℕ) → Tells (e u v) (Near J x (suc y) u v)) where
    -- what the whole test tells
    tells_good : (l : List ℕ) → ((k : ℕ) → In k l → In k gs) → AllNear J x y l → Tells (good b f e gs l) (Local J g (row_of x y l))
    unfolding good
    tells_good l sub n =
        tells_as
        (λ h. fixed_local l sub n (record { several = h.0; not_earlier = h.1.0; not_later = h.1.1.0; not_further = h.1.1.1 }))
        (λ C. let d = local_fixed l sub n C in (d.several, (d.not_earlier, (d.not_later, d.not_further))))
        (tells_and (tells_two l) (tells_and (B l) (tells_and (tells_not (tells_clique E l)) (tells_stuck T gs l))))

    -- no row over [x, y] can be one step larger
    pub rows_local : {c : Row} → In c (rows_by b f e gs x y) → Local J g c
    unfolding rows_by
    rows_local i =
        let w = in_each (λ (l : List ℕ). keep (good b f e gs l) (row_of x y l)) (cliques f gs) i in
        let l : List ℕ = w.0 in
        let k = in_keep (good b f e gs l) (row_of x y l) w.2 in
        let n = cliques_near T gs l w.1 in
        subst (Local J g) (sym k.1) ((tells_good l n.1 ((tells_clique T l).holds n.0)).holds k.0)

    -- each row over [x, y] that cannot be one step larger is one of them
    pub local_rows : (m : ℕ) → let c : Row = record { begin = x; end = y; members = m } in Local J g c → In c (rows_by b f e gs x y)
    unfolding rows_by Within
    local_rows m C =
        let l : List ℕ = picked (set_of m) gs in
        let mine : (k : ℕ) → In k l → Member k m = λ k i. (tells_member k m).holds (in_picked (set_of m) gs i).0 in
        let there : (k : ℕ) → Member k m → In k l = λ k h. picked_in (set_of m) (told_true (tells_member k m) h) (pool_member P C.clique k h) in
        let same : m ≡ mask l = member_ext m (mask l) (λ k h. mask_in l k (there k h)) (λ k h. mine k (in_mask l k h)) in
        let is : record { begin = x; end = y; members = m } ≡ row_of x y l = same_row refl refl same in
        let tells = tells_good l (λ k i. (in_picked (set_of m) gs i).1) (λ u v i j. clique_near C.clique u v (mine u i) (mine v j)) in
        subst (λ (d : Row). In d (rows_by b f e gs x y)) (sym is)
        (each_in (λ (k : List ℕ). keep (good b f e gs k) (row_of x y k)) (near_cliques T m gs (clique_near C.clique))
        (keep_in (good b f e gs l) (row_of x y l) (told_true tells (subst (Local J g) is C))))

-- The mathematics of `search`, over plain numbers and lists: what a call below a node does for the node, and the invariant of its loop.
-- Assumes nothing.
use mathlib.Core.Logic.{◌⊎◌, inl, inr, ⊎_elim, dite}
use mathlib.Core.Path.{◌≡◌, refl, sym, subst, ◌∙◌}
use mathlib.Core.List.{List}
use Prim.Native.Nat.{ℕ, ◌-◌, ◌^◌, ◌<◌}
use native.Mathlib.Nat.{lt_of_le_of_lt}
use native.Mathlib.Decide.{ℕ_discrete}
use Rattle.std.specs.Prelude.{Result, Ok, MatchResult}
use lib.Bits.{bit_and, bit_or}
use lib.Count.{ones, count_trailing_zeros}
use Rattle.gauges.specs.Sets.{Member, Within, Only}
use Rattle.gauges.specs.Members.{Taken}
use Rattle.gauges.proofs.Laws.{member_or_not, member_zero, and_in, and_left, and_right, or_left, or_right, or_cases}
use Rattle.gauges.proofs.Laws.{without_in, without_left, within_refl, within_le, member_ext, lowest_is, ones_missing}
use Rattle.cliques.specs.Groups.{Row}
use Rattle.sweep.specs.Near.{near, Graph}
use Rattle.sweep.specs.Search.{Worth, Node, Best, Wanted, PivotOf}
use Rattle.sweep.specs.declared.store.Full.{Full}
use Rattle.sweep.specs.declared.search.Sought.{Sought}
use Rattle.sweep.specs.Store.{Held, Outgrown, Loose, Added, Adds}
use Rattle.sweep.proofs.OneGauge.{with_cases, with_new, less_in, less_other}
use Rattle.cliques.proofs.Rows.{same_row}
use Rattle.sweep.proofs.Adds.{none_added, added_none, added_as, adds_as, adds_trans, added_kept, added_sound}
use Rattle.sweep.proofs.Worths.{worth_within}

-- the lowest of some gauges of p and q can be the pivot
pub lowest_pivot : {p q left k left' : ℕ} → Within left (bit_or p q) → Taken left k left' → PivotOf p q k
unfolding Within
lowest_pivot {p} {q} {k = k} w T = record { gauge = T.gauge; live = or_cases p q k (w k T.there) }

-- ---- what is wanted

-- a call at the node (r, p, q) puts the rows that are wanted there behind the f rows found
abbrev pub Searched : (adj : List ℕ) (S : Sought) (r p q : ℕ) (o : List ℕ) (f : ℕ) (o' : List ℕ) (f' : ℕ) → Type 0
Searched adj S r p q o f o' f' =
    Added (Wanted adj S r p q) (Wanted adj S r p q) o f o' f'

-- a wanted row is wanted at any node that has its set
with_best : {adj : List ℕ} {S : Sought} {r p q r' p' q' : ℕ} {c : Row}
    → Wanted adj S r p q c → Best adj r' p' q' c.members → Wanted adj S r' p' q' c
with_best w b = record { from = w.from; upto = w.upto; best = b; worth = w.worth }

-- ---- calls with no turn of the loop

-- none is wanted if all of r and p together is not worth showing
pub poor_added : {adj : List ℕ} {S : Sought} {r p q : ℕ} {o : List ℕ} {f : ℕ} → Loose o f → (Worth S (bit_or r p) → ⊥)
    → Searched adj S r p q o f o f
unfolding Within
poor_added {r = r} {p = p} t poor =
    none_added t (λ c w. poor (worth_within (λ v h. ⊎_elim (or_left r p v) (or_right r p v) (w.best.others v h)) w.worth))

-- a node with no candidate
module _ {adj : List ℕ} {r p q : ℕ} (N : Node adj r p q) (none : p ≡ 0) where
  -- has no set but r
  only_r : {c : ℕ} → Best adj r p q c → (v : ℕ) → Member v c → Member v r
  only_r b v h = ⊎_elim (λ m. m) (λ m. absurd (member_zero v (subst (Member v) none m))) (b.others v h)

  -- none is wanted if a gauge is excluded, since that could be added
  pub shut_added : {S : Sought} {o : List ℕ} {f : ℕ} → Loose o f → q < 2 ^ 64 → (q ≡ 0 → ⊥)
      → Searched adj S r p q o f o f
  shut_added t fits some =
      let v = count_trailing_zeros 64 q in
      let out : Member v p ⊎ Member v q = inr ((lowest_is q fits).there some) in
      none_added t (λ c w. w.best.maximal v out (record { all = λ i h. (N.linked v out).all i (only_r w.best i h) }))

  -- r alone is wanted if no gauge is excluded either, and r, which is all of r and p, is worth showing
  module _ {S : Sought} (shut : q ≡ 0) (worth : Worth S (bit_or r p)) where
    -- no gauge can be added
    no_more : (v : ℕ) → Member v p ⊎ Member v q → ⊥
    no_more v = ⊎_elim (λ m. member_zero v (subst (Member v) none m)) (λ m. member_zero v (subst (Member v) shut m))

    pub leaf_wanted : Wanted adj S r p q (record { begin = S.begin; end = S.end; members = r })
    unfolding Within
    leaf_wanted =
        record {
          from = refl;
          upto = refl;
          best = record { clique = N.clique; holds = within_refl r; others = λ v h. inl h; maximal = λ v h _. no_more v h };
          worth = worth_within (λ v h. ⊎_elim (λ m. m) (λ m. absurd (no_more v (inl m))) (or_cases r p v h)) worth;
        }

    pub leaf_adds : (o : List ℕ) (f : ℕ) (o' : List ℕ) (a : Result ℕ Full) → Adds (λ (c : Row). c ≡ record { begin = S.begin; end = S.end; members = r }) o f o' a
        → Adds (Wanted adj S r p q) o f o' a
    unfolding Within
    leaf_adds o f o' =
        adds_as o f o'
        (λ c e. subst (Wanted adj S r p q) (sym e) leaf_wanted)
        (λ n have c w. have c (same_row w.from w.upto (member_ext c.members r (only_r w.best) w.best.holds)))

-- ---- nodes

-- The node below (r, p, q) at the candidate v: v joins the clique, and only the gauges linked to v stay. s is the set of v alone, and n the gauges that v is linked to.
module _ {adj : List ℕ} (G : Graph adj) {r p q : ℕ} (N : Node adj r p q) {v s n : ℕ} (o : Only v s) (e : n ≡ near adj v) (small : v < 64) (cand : Member v p) where
  abbrev Below : ℕ → Type 0
  Below = Best adj (bit_or r s) (bit_and p n) (bit_and q n)

  -- n has what v is linked to
  linked_n : (w : ℕ) → Member w (near adj v) → Member w n
  linked_n w h = subst (Member w) (sym e) h

  -- a gauge of the node that is linked to v is one of the node below
  down : (w : ℕ) → Member v (near adj w) → Member w p ⊎ Member w q → Member w (bit_and p n) ⊎ Member w (bit_and q n)
  down w l = ⊎_elim
      (λ m. inl (and_in p n w m (linked_n w (G.symmetric w v l))))
      (λ m. inr (and_in q n w m (linked_n w (G.symmetric w v l))))

  -- and the other way round
  up : (w : ℕ) → Member w (bit_and p n) ⊎ Member w (bit_and q n) → Member w p ⊎ Member w q
  up w = ⊎_elim (λ m. inl (and_left p n w m)) (λ m. inr (and_left q n w m))

  -- a gauge of the node below is linked to v
  close : (w : ℕ) → Member w (bit_and p n) ⊎ Member w (bit_and q n) → Member w (near adj v)
  close w h = subst (Member w) e (⊎_elim (and_right p n w) (and_right q n w) h)

  -- v is linked to all of r
  joins : (i : ℕ) → Member i r → Member v (near adj i)
  joins = (N.linked v (inl cand)).all

  -- it is a node
  node_below : Node adj (bit_or r s) (bit_and p n) (bit_and q n)
  node_below =
      record {
        clique = record {
          pairs = λ i j a b f. ⊎_elim
              (λ m. ⊎_elim
              (λ m'. N.clique.pairs i j m m' f)
              (λ j-is. subst (λ (u : ℕ). Member u (near adj i)) (sym j-is) (joins i m))
              (with_cases o small r j b))
              (λ i-is. ⊎_elim
              (λ m'. subst (λ (u : ℕ). Member j (near adj u)) (sym i-is) (G.symmetric j v (joins j m')))
              (λ j-is. absurd (f (i-is ∙ sym j-is)))
              (with_cases o small r j b))
              (with_cases o small r i a);
        };
        linked = λ w h. record {
          all = λ i a. ⊎_elim
              ((N.linked w (up w h)).all i)
              (λ i-is. subst (λ (u : ℕ). Member w (near adj u)) (sym i-is) (close w h))
              (with_cases o small r i a);
        };
      }

  -- what the node below has the node has too
  best_up : (c : ℕ) → Below c → Best adj r p q c
  unfolding Within
  best_up c b =
      let new : Member v c = b.holds v (with_new o small r) in
      record {
        clique = b.clique;
        holds = λ w h. b.holds w (or_left r s w h);
        others = λ w h. ⊎_elim
            (λ m. ⊎_elim inl (λ w-is. inr (subst (λ (u : ℕ). Member u p) (sym w-is) cand)) (with_cases o small r w m))
            (λ m. inr (and_left p n w m))
            (b.others w h);
        maximal = λ w h l. b.maximal w (down w (G.symmetric v w (l.all v new)) h) l;
      }

  -- what the node has and holds v, the node below has
  best_down : (c : ℕ) → Member v c → Best adj r p q c → Below c
  unfolding Within
  best_down c new b =
      record {
        clique = b.clique;
        holds = λ w h. ⊎_elim (b.holds w) (λ w-is. subst (λ (u : ℕ). Member u c) (sym w-is) new) (with_cases o small r w h);
        others = λ w h. dite (ℕ_discrete w v)
            (λ w-is. inl (subst (λ (u : ℕ). Member u (bit_or r s)) (sym w-is) (with_new o small r)))
            (λ f. ⊎_elim
            (λ m. inl (or_left r s w m))
            (λ m. inr (and_in p n w m (linked_n w (b.clique.pairs v w new h (λ w-is. f (sym w-is))))))
            (b.others w h));
        maximal = λ w h l. b.maximal w (up w h) l;
      }

  -- The node after v: v is no candidate any more and is excluded.
  module _ (hs : s < 2 ^ 64) (hp : p < 2 ^ 64) where
    abbrev After : ℕ → Type 0
    After = Best adj r (bit_and p ((2 ^ 64 - 1) - s)) (bit_or q s)

    -- it has the same gauges as the node
    after_in : (w : ℕ) → Member w p ⊎ Member w q → Member w (bit_and p ((2 ^ 64 - 1) - s)) ⊎ Member w (bit_or q s)
    after_in w h = dite (ℕ_discrete w v)
        (λ w-is. inr (subst (λ (u : ℕ). Member u (bit_or q s)) (sym w-is) (with_new o small q)))
        (λ f. ⊎_elim (λ m. inl (less_in o small p hs hp w m f)) (λ m. inr (or_left q s w m)) h)

    after_out : (w : ℕ) → Member w (bit_and p ((2 ^ 64 - 1) - s)) ⊎ Member w (bit_or q s) → Member w p ⊎ Member w q
    after_out w = ⊎_elim
        (λ m. inl (without_left p s w 64 m))
        (λ m. ⊎_elim inr (λ w-is. inl (subst (λ (u : ℕ). Member u p) (sym w-is) cand)) (with_cases o small q w m))

    -- what the node has, the node below or the node after v has
    best_parts : (c : ℕ) → Best adj r p q c → Below c ⊎ After c
    best_parts c b = ⊎_elim
        (λ new. inl (best_down c new b))
        (λ old. inr (record {
          clique = b.clique;
          holds = b.holds;
          others = λ w h. ⊎_elim inl
              (λ m. inr (less_in o small p hs hp w m (λ w-is. old (subst (λ (u : ℕ). Member u c) w-is h))))
              (b.others w h);
          maximal = λ w h l. b.maximal w (after_out w h) l;
        }))
        (member_or_not v c)

    -- a set that the node after v has the node has
    after_up : (c : ℕ) → After c → Best adj r p q c
    after_up c b =
        record {
          clique = b.clique;
          holds = b.holds;
          others = λ w h. ⊎_elim inl (λ m. inr (without_left p s w 64 m)) (b.others w h);
          maximal = λ w h l. b.maximal w (after_in w h) l;
        }

    -- and it lacks v: v is no candidate there, and none of r, which v is linked to
    after_lacks : (c : ℕ) → After c → Member v c → ⊥
    after_lacks c b h = ⊎_elim
        (λ m. G.loopless v (joins v m))
        (λ m. less_other o small p hs v m refl)
        (b.others v h)

  -- a set that the node below has holds v
  below_has : (c : ℕ) → Below c → Member v c
  unfolding Within
  below_has c b = b.holds v (with_new o small r)

-- ---- the loop

-- Of the candidates p and the excluded gauges q of a node with the pivot k, `cand` and `gone` are those that are left, and `branch` the candidates still to be tried.
pub record Left (adj : List ℕ) (p q k cand gone branch : ℕ) : Type 0 where
  pub fewer : Within cand p
  pub same : (v : ℕ) → Member v p ⊎ Member v q → Member v cand ⊎ Member v gone
  pub back : (v : ℕ) → Member v cand ⊎ Member v gone → Member v p ⊎ Member v q
  pub tried : Within branch cand
  pub others : (v : ℕ) → Member v cand → Member v branch ⊎ Member v (near adj k)

-- The rows have gained wanted ones only, lack at most those that are wanted of what is left, and have none of these.
pub record Loop (adj : List ℕ) (S : Sought) (r p q k : ℕ) (o : List ℕ) (f : ℕ) (o' : List ℕ) (f' : ℕ) (cand gone branch : ℕ) : Type 0 where
  pub left : Left adj p q k cand gone branch
  pub added : Added (Wanted adj S r p q) (λ _. ⊥) o f o' f'
  pub rest : (c : Row) → Wanted adj S r p q c → Held o' f' c ⊎ Wanted adj S r cand gone c
  pub absent : (c : Row) → Wanted adj S r cand gone c → Held o' f' c → ⊥

-- where the loop begins: the branches are the candidates that are not linked to the pivot
pub loop_start : {adj : List ℕ} {S : Sought} {r p q k n : ℕ} {o : List ℕ} {f : ℕ} → Loose o f
    → ((c : Row) → Wanted adj S r p q c → Held o f c → ⊥) → p < 2 ^ 64 → n < 2 ^ 64 → n ≡ near adj k
    → Loop adj S r p q k o f o f p q (bit_and p ((2 ^ 64 - 1) - n))
unfolding Within
loop_start {p = p} {n = n} {o = o} {f = f} t absent hp hn e =
    record {
      left = record {
        fewer = within_refl p;
        same = λ v h. h;
        back = λ v h. h;
        tried = λ v h. without_left p n v 64 h;
        others = λ v h. ⊎_elim (λ m. inr (subst (Member v) e m)) (λ m. inl (without_in p n v 64 hp hn h m)) (member_or_not v n);
      };
      added = added_none t;
      rest = λ c w. inr w;
      absent = absent;
    }

-- where the loop ends none is left: each candidate that is left is linked to the pivot, which could be added to a set of those
pub loop_end : {adj : List ℕ} {S : Sought} {r p q k : ℕ} {o : List ℕ} {f : ℕ} {o' : List ℕ} {f' : ℕ} {cand gone branch : ℕ}
    → Graph adj → Node adj r p q → PivotOf p q k → Loop adj S r p q k o f o' f' cand gone branch → branch ≡ 0
    → Searched adj S r p q o f o' f'
loop_end {adj} {r = r} {k = k} {cand = cand} {gone = gone} G N P L empty =
    added_as L.added (λ c w. w) (λ c w. ⊎_elim (λ h. h) (λ m. absurd (stuck m.best)) (L.rest c w))
  where
    -- a candidate that is left is linked to the pivot
    far : (i : ℕ) → Member i cand → Member k (near adj i)
    far i h = ⊎_elim (λ m. absurd (member_zero i (subst (Member i) empty m))) (G.symmetric k i) (L.left.others i h)

    -- so what is left has no set
    stuck : {c : ℕ} → Best adj r cand gone c → ⊥
    stuck b = b.maximal k (L.left.same k P.live) (record { all = λ i h. ⊎_elim ((N.linked k P.live).all i) (far i) (b.others i h) })

-- A turn of the loop at the gauge v of the branches, where s is the set of v alone, and n the gauges that v is linked to.
pub record Turn (adj : List ℕ) (r p q k cand gone branch v s n : ℕ) : Type 0 where
  pub graph : Graph adj
  pub node : Node adj r p q
  pub fits : p < 2 ^ 64
  pub left : Left adj p q k cand gone branch
  pub one : Only v s
  pub one_fits : s < 2 ^ 64
  pub is_near : n ≡ near adj v
  pub small : v < 64
  pub hit : Member v branch

module _ {adj : List ℕ} {r p q k cand gone branch v s n : ℕ} (T : Turn adj r p q k cand gone branch v s n) where
  open T use {graph as G, node as N, fits as hp, left as L, one, one_fits as hs, is_near, small, hit}

  -- v is a candidate that is left
  here : Member v cand
  unfolding Within
  here = L.tried v hit

  -- ranges
  cand_lt : cand < 2 ^ 64
  cand_lt = lt_of_le_of_lt (within_le cand p L.fewer) hp

  branch_lt : branch < 2 ^ 64
  branch_lt = lt_of_le_of_lt (within_le branch cand L.tried) cand_lt

  -- what is left is a node with the same clique
  rest : Node adj r cand gone
  rest = record { clique = N.clique; linked = λ w h. N.linked w (L.back w h) }

  -- what that has the node has
  rest_best : (c : ℕ) → Best adj r cand gone c → Best adj r p q c
  unfolding Within
  rest_best c b =
      record {
        clique = b.clique;
        holds = b.holds;
        others = λ w h. ⊎_elim inl (λ m. inr (L.fewer w m)) (b.others w h);
        maximal = λ w h l. b.maximal w (L.same w h) l;
      }

  -- the call's node
  pub turn_node : Node adj (bit_or r s) (bit_and cand n) (bit_and gone n)
  turn_node = node_below G rest one is_near small here

  -- what the call finds the node has
  call_best : (c : ℕ) → Best adj (bit_or r s) (bit_and cand n) (bit_and gone n) c → Best adj r p q c
  call_best c b = rest_best c (best_up G rest one is_near small here c b)

  -- the call's node has fewer candidates and excluded gauges
  pub turn_falls : ones (bit_or (bit_and cand n) (bit_and gone n)) < ones (bit_or p q)
  unfolding Within
  turn_falls =
      ones_missing (bit_or (bit_and cand n) (bit_and gone n)) (bit_or p q) v
      (λ w h. ⊎_elim (or_left p q w) (or_right p q w) (L.back w (up G rest one is_near small here w (or_cases (bit_and cand n) (bit_and gone n) w h))))
      (or_left p q v (L.fewer v here))
      (λ h. G.loopless v (close G rest one is_near small here v (or_cases (bit_and cand n) (bit_and gone n) v h)))

  -- what is left after it
  turn_left : Left adj p q k (bit_and cand ((2 ^ 64 - 1) - s)) (bit_or gone s) (bit_and branch ((2 ^ 64 - 1) - s))
  unfolding Within
  turn_left =
      record {
        fewer = λ w h. L.fewer w (without_left cand s w 64 h);
        same = λ w h. after_in G rest one is_near small here hs cand_lt w (L.same w h);
        back = λ w h. L.back w (after_out G rest one is_near small here hs cand_lt w h);
        tried = λ w h. less_in one small cand hs cand_lt w (L.tried w (without_left branch s w 64 h)) (less_other one small branch hs w h);
        others = λ w h. ⊎_elim
            (λ m. inl (less_in one small branch hs branch_lt w m (less_other one small cand hs w h)))
            inr
            (L.others w (without_left cand s w 64 h));
      }

  -- what the call found is there with what the loop found, or what the node wants found no room
  pub turn_adds : {S : Sought} {o o' : List ℕ} {f f' : ℕ}
      → Loop adj S r p q k o f o' f' cand gone branch
      → (o'' : List ℕ) (a : Result ℕ Full) → Adds (Wanted adj S (bit_or r s) (bit_and cand n) (bit_and gone n)) o' f' o'' a
      → MatchResult a (λ f''. Added (Wanted adj S r p q) (λ _. ⊥) o f o'' f'') (λ _. Outgrown (Wanted adj S r p q) o f o'')
  turn_adds l = adds_trans l.added (λ c w. w) (λ c w. with_best w (call_best c.members w.best)) (λ c z. absurd z)

  -- the loop goes on with what the call found
  pub turn_loop : {S : Sought} {o o' o'' : List ℕ} {f f' f'' : ℕ}
      → Loop adj S r p q k o f o' f' cand gone branch
      → Searched adj S (bit_or r s) (bit_and cand n) (bit_and gone n) o' f' o'' f''
      → Loop adj S r p q k o f o'' f'' (bit_and cand ((2 ^ 64 - 1) - s)) (bit_or gone s) (bit_and branch ((2 ^ 64 - 1) - s))
  turn_loop {o'' = o''} {f'' = f''} l g =
      record {
        left = turn_left;
        added = turn_adds l o'' (Ok f'') g;
        rest = λ c w. ⊎_elim
            (λ h. inl (added_kept g c h))
            (λ m. ⊎_elim
            (λ b. inl (g.complete c (with_best m b)))
            (λ b. inr (with_best m b))
            (best_parts G rest one is_near small here hs cand_lt c.members m.best))
            (l.rest c w);
        absent = λ c w h. ⊎_elim
            (λ k. l.absent c (with_best w (after_up G rest one is_near small here hs cand_lt c.members w.best)) k)
            (λ k. after_lacks G rest one is_near small here hs cand_lt c.members w.best (below_has G rest one is_near small here c.members k.best))
            (added_sound g c h);
      }

  -- what the call wants is not found yet
  pub turn_absent : {S : Sought} {o o' : List ℕ} {f f' : ℕ}
      → Loop adj S r p q k o f o' f' cand gone branch
      → (c : Row) → Wanted adj S (bit_or r s) (bit_and cand n) (bit_and gone n) c → Held o' f' c → ⊥
  turn_absent l c w = l.absent c (with_best w (best_up G rest one is_near small here c.members w.best))

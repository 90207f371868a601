-- The links of an accepted table are a simple undirected link stream of document 000, and the groups of the table are exactly the maximal cliques of that stream
-- with at least two nodes. Assumes nothing.
use mathlib.Core.List.{List}
use mathlib.Core.Logic.{dite}
use mathlib.Core.Path.{◌≡◌, sym, ap, ◌∙◌}
use Prim.Native.Nat.{ℕ, ◌<◌}
use native.Mathlib.Decide.{ℕ_discrete}
use native.Mathlib.Nat.{le_trans, le_of_eq, lt_of_le_of_lt}
use Rattle.links.specs.Links.{count, begins, ends, one, other, Of, in_order, turned, Joined, Accepted}
use Rattle.links.proofs.Pairs.{of_sym, of_both}
use Rattle.cliques.specs.Groups.{Row, Group}
use Rattle.cliques.specs.Paper.{Stream, Undirected, Simple, Timed, StreamMaximal, TwoNodes, Same, timed, FamilyOf}
use Rattle.cliques.proofs.SameFamily.{SubFamily, same_groups}
use Rattle.cliques.proofs.Streams.{group_maximal, maximal_group, maximal_row}

-- (b, e, u, v) is one of the links of t, its two gauges in either order
pub record InTable (t : List ℕ) (b e u v : ℕ) : Type 0 where
  pub link : ℕ
  pub there : link < count t
  pub pair : Of t link u v
  pub begins_at : begins t link ≡ b
  pub ends_at : ends t link ≡ e

-- its gauges are known, ..
pub in_table_known : {t : List ℕ} {g b e u v : ℕ} → Accepted t g → InTable t b e u v → u < g
in_table_known {t} {g} {u = u} {v = v} A k = go k.pair
  where
    go : Of t k.link u v → u < g
    go (in_order p q) = lt_of_le_of_lt (le_of_eq (sym p)) (A.known_one k.link k.there)
    go (turned p q) = lt_of_le_of_lt (le_of_eq (sym q)) (A.known_other k.link k.there)

-- in either order, ..
pub in_table_turned : {t : List ℕ} {b e u v : ℕ} → InTable t b e u v → InTable t b e v u
in_table_turned k = record { link = k.link; there = k.there; pair = of_sym k.pair; begins_at = k.begins_at; ends_at = k.ends_at }

-- and different
in_table_two : {t : List ℕ} {g b e u v : ℕ} → Accepted t g → InTable t b e u v → u ≡ v → ⊥
in_table_two {t} {u = u} {v = v} A k s = A.two k.link k.there (go k.pair)
  where
    go : Of t k.link u v → one t k.link ≡ other t k.link
    go (in_order p q) = p ∙ s ∙ sym q
    go (turned p q) = p ∙ sym s ∙ sym q

-- the link stream of an accepted table
unfoldable pub stream_of : (t : List ℕ) (g : ℕ) → Accepted t g → Stream
stream_of t g A =
    record {
      last = 2147483647;
      nodes = g;
      link = InTable t;
      forward = λ k. le_trans (le_of_eq (sym k.begins_at)) (le_trans (A.forward k.link k.there) (le_of_eq k.ends_at));
      in_time = λ k. le_trans (le_of_eq (sym k.ends_at)) (A.in_time k.link k.there);
      known_one = λ k. in_table_known A k;
      known_other = λ k. in_table_known A (in_table_turned k);
    }

module _ (t : List ℕ) (g : ℕ) (A : Accepted t g) where
  -- it is undirected
  pub stream_undirected : Undirected (stream_of t g A)
  unfolding stream_of
  stream_undirected = record { turned = in_table_turned }

  -- and simple
  pub stream_simple : Simple (stream_of t g A)
  unfolding stream_of
  stream_simple =
      record {
        differ = in_table_two A;
        apart = λ k m h p q r s.
            let i = k.link in
            let j = m.link in
            dite (ℕ_discrete i j)
            (λ e. (sym k.begins_at ∙ ap (begins t) e ∙ m.begins_at, sym k.ends_at ∙ ap (ends t) e ∙ m.ends_at))
            (λ d. absurd (A.apart i j k.there m.there d (record {
              pair = of_both k.pair m.pair;
              hour = h;
              in_one = record { from = le_trans (le_of_eq k.begins_at) p; upto = le_trans q (le_of_eq (sym k.ends_at)) };
              in_other = record { from = le_trans (le_of_eq m.begins_at) r; upto = le_trans s (le_of_eq (sym m.ends_at)) };
            })));
      }

  -- the family of the stream is that of the table
  stream_joined : SubFamily (FamilyOf (stream_of t g A)) (Joined t)
  unfolding stream_of
  stream_joined u v x y l s f =
      let k = f.linked.there in
      record {
        link = k.link;
        covers = record {
          there = k.there;
          pair = k.pair;
          span = f.span;
          from = le_trans (le_of_eq k.begins_at) f.linked.begun;
          upto = le_trans f.linked.lasts (le_of_eq (sym k.ends_at));
        };
      }

  joined_stream : SubFamily (Joined t) (FamilyOf (stream_of t g A))
  unfolding stream_of
  joined_stream u v x y l s j =
      let c = j.covers in
      record {
        span = s;
        linked = record {
          b = begins t j.link;
          e = ends t j.link;
          there = record { link = j.link; there = c.there; pair = c.pair; begins_at = λ i. begins t j.link; ends_at = λ i. ends t j.link };
          begun = c.from;
          lasts = c.upto;
        };
      }

  -- a group of the table is a maximal clique of the stream with at least two nodes,
  pub table_group_maximal : {c : Row} → Group (Joined t) g c → TwoNodes (timed c) × StreamMaximal (stream_of t g A) (timed c)
  unfolding stream_of
  table_group_maximal G = group_maximal stream_undirected (same_groups joined_stream stream_joined G)

  -- a maximal clique of the stream with at least two nodes, written as a row, is a group of the table,
  pub maximal_table_group : {c : Row} → TwoNodes (timed c) → StreamMaximal (stream_of t g A) (timed c) → Group (Joined t) g c
  unfolding stream_of
  maximal_table_group two M = same_groups stream_joined joined_stream (maximal_group stream_undirected two M)

  -- and each of these maximal cliques can be so written
  pub maximal_table_row : {C : Timed} → TwoNodes C → StreamMaximal (stream_of t g A) C → (c : Row) × Group (Joined t) g c × Same (timed c) C
  unfolding stream_of
  maximal_table_row two M = let r = maximal_row stream_undirected two M in (r.0, same_groups stream_joined joined_stream r.1, r.2)

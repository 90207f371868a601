-- The table of links, in the words of document 01. A table is the list t of the lent numbers, four a link: b, e, u, v. Assumes nothing: these are definitions.
use Rattle.std.specs.Prelude.{◌≡◌, List, ℕ, ◌+◌, ◌*◌, ◌/◌, ◌%◌, ◌≤◌, ◌<◌, length, get_or}

-- how many whole links the numbers hold
abbrev pub count : List ℕ → ℕ
count t = length t / 4

-- the four numbers of link i, which is numbered from 0
abbrev pub begins : List ℕ → ℕ → ℕ
begins t i = get_or t (4 * i) 0

abbrev pub ends : List ℕ → ℕ → ℕ
ends t i = get_or t (4 * i + 1) 0

abbrev pub one : List ℕ → ℕ → ℕ
one t i = get_or t (4 * i + 2) 0

abbrev pub other : List ℕ → ℕ → ℕ
other t i = get_or t (4 * i + 3) 0

-- link i is one of gauges u and v: the two gauges have no order
pub data Of (t : List ℕ) (i u v : ℕ) : Type 0 where
  in_order : one t i ≡ u → other t i ≡ v → Of t i u v
  turned : one t i ≡ v → other t i ≡ u → Of t i u v

-- link i joins its gauges at hour h: at every hour from b to e, both included
pub record During (t : List ℕ) (i h : ℕ) : Type 0 where
  pub from : begins t i ≤ h
  pub upto : h ≤ ends t i

-- links i and j are of the same two gauges and share an hour
pub record Clash (t : List ℕ) (i j : ℕ) : Type 0 where
  pub pair : Of t i (one t j) (other t j)
  pub hour : ℕ
  pub in_one : During t i hour
  pub in_other : During t j hour

-- Link i joins u and v throughout the span [x, y], x ≤ y: it is of that pair and has b ≤ x and y ≤ e.
-- A begin after its end makes no span, and no link joins anything throughout it.
pub record Covers (t : List ℕ) (u v x y i : ℕ) : Type 0 where
  pub there : i < count t
  pub pair : Of t i u v
  pub span : x ≤ y
  pub from : begins t i ≤ x
  pub upto : y ≤ ends t i

-- ONE link of t is of the pair u, v and covers [x, y]
pub record Covered (t : List ℕ) (u v x y : ℕ) : Type 0 where
  pub link : ℕ
  pub covers : Covers t u v x y link

-- a pair is joined throughout [x, y] if ONE link of that pair has b ≤ x and y ≤ e
abbrev pub Joined : List ℕ → ℕ → ℕ → ℕ → ℕ → Type 0
Joined t = Covered t

-- no two links of t are of the same two gauges and share an hour
abbrev pub Apart : List ℕ → Type 0
Apart t = (i j : ℕ) → i < count t → j < count t → (i ≡ j → ⊥) → Clash t i j → ⊥

-- The numbers of t, with a gauge count g, are a table that is accepted.
pub record Accepted (t : List ℕ) (g : ℕ) : Type 0 where
  pub whole : length t % 4 ≡ 0
  pub few : count t ≤ 2048
  pub some_gauge : 1 ≤ g
  pub few_gauges : g ≤ 64
  pub known_one : (i : ℕ) → i < count t → one t i < g
  pub known_other : (i : ℕ) → i < count t → other t i < g
  pub two : (i : ℕ) → i < count t → one t i ≡ other t i → ⊥
  pub forward : (i : ℕ) → i < count t → begins t i ≤ ends t i
  pub in_time : (i : ℕ) → i < count t → ends t i ≤ 2147483647
  pub apart : Apart t

-- The links of t' are those of t in another order, each with its two gauges in either order: `to` and `back` say which link of the one is which of the other.
pub record Rearranged (t t' : List ℕ) : Type 0 where
  pub same_length : length t ≡ length t'
  pub to : ℕ → ℕ
  pub back : ℕ → ℕ
  pub to_there : (i : ℕ) → i < count t → to i < count t'
  pub back_there : (j : ℕ) → j < count t' → back j < count t
  pub to_back : (i : ℕ) → i < count t → back (to i) ≡ i
  pub back_to : (j : ℕ) → j < count t' → to (back j) ≡ j
  pub same_begin : (i : ℕ) → i < count t → begins t' (to i) ≡ begins t i
  pub same_end : (i : ℕ) → i < count t → ends t' (to i) ≡ ends t i
  pub same_pair : (i : ℕ) → i < count t → Of t' (to i) (one t i) (other t i)

-- Every link of t is one of t' too, with the same hours and its two gauges in either order: `to` says which.
pub record Extends (t t' : List ℕ) : Type 0 where
  pub to : ℕ → ℕ
  pub to_there : (i : ℕ) → i < count t → to i < count t'
  pub same_begin : (i : ℕ) → i < count t → begins t' (to i) ≡ begins t i
  pub same_end : (i : ℕ) → i < count t → ends t' (to i) ≡ ends t i
  pub same_pair : (i : ℕ) → i < count t → Of t' (to i) (one t i) (other t i)

-- Lists of rows that compute: a list of all rows of a set, in order, is the list of the set; and what of it is large enough. Assumes nothing.
use mathlib.Core.List.{List, Memᴰ as In}
use Prim.Native.Nat.{ℕ}
use lib.ListN.{length, get_or}
use Rattle.cliques.specs.Groups.{Row}
use Rattle.cliques.specs.Lists.{Before, Listed}
use Rattle.cliques.proofs.Order.{before_trans, before_or, beforeb, tells_before}
use Rattle.cliques.proofs.Sorting.{at_in, in_at, Sorted, sorted_at, sort, sort_in, in_sort, sort_sorted}

-- what stands past the end of a list of rows
abbrev pub no_row : Row
no_row = record { begin = 0; end = 0; members = 0 }

-- the rows of a list, as a sequence
abbrev pub row_at : List Row → ℕ → Row
row_at rs i = get_or rs i no_row

-- a list of all rows of a set, in order, is the list of the set
pub sorted_listed : {P : Row → Type 0} {rs : List Row} → Sorted Before rs → ((c : Row) → In c rs → P c) → ((c : Row) → P c → In c rs) → Listed P (row_at rs) (length rs)
sorted_listed {P} {rs} s sound all_in =
    record {
      holds = record { ordered = sorted_at no_row s; sound = λ i h. sound (row_at rs i) (at_in rs i no_row h) };
      complete = λ c p. in_at no_row (all_in c p);
    }

-- so any list of all of them is, once it is put in order
pub sort_listed : {P : Row → Type 0} (rs : List Row) → ((c : Row) → In c rs → P c) → ((c : Row) → P c → In c rs) → Listed P (row_at (sort beforeb rs)) (length (sort beforeb rs))
sort_listed rs sound all_in =
    sorted_listed (sort_sorted tells_before before_or (λ a b c. before_trans) rs)
    (λ c i. sound c (in_sort tells_before before_or rs i))
    (λ c p. sort_in tells_before before_or rs (all_in c p))

-- The one file of a table, byte by byte. Assumes nothing: these are definitions.
use Rattle.std.specs.Prelude.{List, [], ◌++◌, ℕ, zero, suc}
use Rattle.links.specs.Links.{count, begins, ends, one, other}
use Rattle.linkfile.specs.Numbers.{bytes_of}
use Rattle.linkfile.specs.Records.{length_of}

-- how a record of each kind begins: its length and its kind
abbrev pub head_of : ℕ → List ℕ
head_of kind = bytes_of 4 (length_of kind) ++ bytes_of 2 kind

-- the record of link i: b 4, e 4, u 2, v 2
abbrev pub link_record : List ℕ → ℕ → List ℕ
link_record t i = head_of 2 ++ bytes_of 4 (begins t i) ++ bytes_of 4 (ends t i) ++ bytes_of 2 (one t i) ++ bytes_of 2 (other t i)

-- the records of the links below n, in their order
unfoldable pub link_records : List ℕ → ℕ → List ℕ
link_records t zero = []
link_records t (suc n) = link_records t n ++ link_record t n

-- the file: the gauge count in the opening record, the links, and their count in the closing record
unfoldable pub file_of : List ℕ → ℕ → List ℕ
file_of t g = head_of 1 ++ bytes_of 2 g ++ link_records t (count t) ++ head_of 3 ++ bytes_of 4 (count t)

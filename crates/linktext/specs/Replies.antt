-- The replies of the crate, and what packing promises of the lent bytes. Assumes nothing: these are definitions.
use Rattle.std.specs.Prelude.{◌&&◌, List, ◌≡◌, ℕ, ◌+◌, ◌≤◌, ◌<◌, ltb, length, Result, Ok, Err}
use Rattle.links.specs.Reasons as Table
use Rattle.linkfile.specs.Replies.{Written, Writes}
use Rattle.linktext.specs.Texts as Text
use Rattle.linktext.specs.Texts.{choose, read_text}
use Rattle.linktext.specs.Faults.{fault_number}
use Rattle.linktext.specs.declared.reply.TextRefusal.{TextRefusal}

-- the reply of packing
abbrev pub Packed : Type 0
Packed = Result ℕ TextRefusal

-- what a reply says: the length of the file, or a reason and its line
pub data Said : Type 0 where
  file : (size : ℕ) → Said
  refused : (reason line : ℕ) → Said

abbrev pub said_of : Packed → Said
said_of (Ok n) = file n
said_of (Err r) = refused (fault_number r.fault) r.line

-- the line of a fault of the table: from 4 to 8 its place is a link, and link 0 stands in line 2; all else is said of line 1
abbrev pub line_in : ℕ → ℕ → ℕ
line_in n p = choose (ltb 3 n && ltb n 9) (p + 2) 1

-- what the writer's reply comes to
abbrev pub written_said : Written → Said
written_said (Ok n) = file n
written_said (Err r) = refused (Table.number_of r.reason) (line_in (Table.number_of r.reason) r.place)

-- What packing a text into lent bytes answers, and what becomes of them: a text of more than 131,072 bytes is refused with 94; one that is no table with its first
-- reason and line; and of a table the writer's reply, with the link file in the bytes. A refusal leaves them unchanged.
pub data Packs (text before : List ℕ) (reply : Packed) (after : List ℕ) : Type 0 where
  too_long : 131072 < length text → said_of reply ≡ refused 94 1 → after ≡ before → Packs text before reply after
  no_table : {n l : ℕ} → length text ≤ 131072 → read_text text ≡ Text.no_table n l → said_of reply ≡ refused n l → after ≡ before → Packs text before reply after
  table : {g : ℕ} {ns : List ℕ} {w : Written} → length text ≤ 131072 → read_text text ≡ Text.table g ns → Writes ns g before after w → said_of reply ≡ written_said w
      → Packs text before reply after

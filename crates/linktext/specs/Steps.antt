-- For the contracts of internal functions: what their replies say, in the words of `Texts`. Assumes nothing: these are definitions.
use Rattle.std.specs.Prelude.{List, ℕ, ◌*◌, ◌≤◌, take, Result, Ok, Err, IfOk}
use Rattle.std.specs.Borrow.{Bor}
use Rattle.linktext.specs.Texts.{Figure, figure, no_figure, Line, line, no_line, Parsed, table, no_table}
use Rattle.linktext.specs.Faults.{fault_number}
use Rattle.linktext.specs.declared.reply.TextFault.{TextFault}
use Rattle.linktext.specs.declared.reply.TextRefusal.{TextRefusal}
use Rattle.linktext.specs.declared.text.Number.{Number}
use Rattle.linkfile.specs.declared.reply.Counts.{Counts}

-- the number that was read and the text behind it, or why there is none
abbrev pub figure_in : Result Number TextFault → Figure
figure_in (Ok n) = figure n.value n.rest.now
figure_in (Err f) = no_figure (fault_number f)

-- the line that was read, up to whose end the numbers are ns, and the text behind it, or why it is none of a table
abbrev pub line_in : List ℕ → Result (Bor (List ℕ)) TextFault → Line
line_in ns (Ok rest) = line ns rest.now
line_in ns (Err f) = no_line (fault_number f)

-- the table that was read: its gauge count, and its numbers in front of the lent ones; or why there is none, and the line
abbrev pub parsed_in : List ℕ → Result Counts TextRefusal → Parsed
parsed_in numbers (Ok c) = table c.gauges (take (4 * c.links) numbers)
parsed_in numbers (Err r) = no_table (fault_number r.fault) r.line

-- a table that was read has no more links than a table may have
abbrev pub Few : Result Counts TextRefusal → Type 0
Few r = IfOk r (λ c. c.links ≤ 2048)

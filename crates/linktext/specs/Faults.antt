-- The reasons to refuse a text, by their numbers. Assumes nothing: these are definitions.
use Rattle.std.specs.Prelude.{ℕ, List, ◌++◌, codes, decimal}
use Rattle.links.specs.Reasons as Table
use Rattle.linktext.specs.declared.reply.TextFault.{TextFault}
use Rattle.linktext.specs.declared.reply.TextRefusal.{TextRefusal}
use Rattle.linktext.specs.declared.reply.TextFault.TheVariants.{NoGauges, NoLink, TooLarge, TooLong, Table as OfTable}

-- the number of a reason; one for the table has document 01's
abbrev pub fault_number : TextFault → ℕ
fault_number NoGauges = 91
fault_number NoLink = 92
fault_number TooLarge = 93
fault_number TooLong = 94
fault_number (OfTable r) = Table.number_of r

-- a refusal as text: `refused`, the number of its reason, and the line
abbrev pub refusal_text : TextRefusal → List ℕ
refusal_text r = codes "refused " ++ (decimal (fault_number r.fault) ++ (codes " line " ++ decimal r.line))

-- The reasons of document 01's table by their numbers. Assumes nothing: these are definitions.
use Rattle.std.specs.Prelude.{ℕ, List, ◌++◌, codes, decimal}
use Rattle.links.specs.declared.reply.Refusal.{Refusal}
use Rattle.links.specs.declared.reply.Reason.{Reason}
use Rattle.links.specs.declared.reply.Reason.TheVariants.{NotFours, TooManyLinks, NotThatManyGauges, UnknownGauge, SameGauge, EndBeforeBegin, TooLate, SharedHour, TooFewRows, UnknownMember, TooFewMembers, NoSpan, CutOff, WrongKind, WrongLength, WrongCount, BytesBehind, TooFewNumbers, TooFewBytes, TooLargeInput}

-- the number of a reason
abbrev pub number_of : Reason → ℕ
number_of NotFours = 1
number_of TooManyLinks = 2
number_of NotThatManyGauges = 3
number_of UnknownGauge = 4
number_of SameGauge = 5
number_of EndBeforeBegin = 6
number_of TooLate = 7
number_of SharedHour = 8
number_of TooFewRows = 9
number_of UnknownMember = 10
number_of TooFewMembers = 11
number_of NoSpan = 12
number_of CutOff = 20
number_of WrongKind = 21
number_of WrongLength = 22
number_of WrongCount = 23
number_of BytesBehind = 24
number_of TooFewNumbers = 25
number_of TooFewBytes = 26
number_of TooLargeInput = 27

-- a refusal as text: `refused`, the number of the reason and the place
abbrev pub refusal_text : Refusal → List ℕ
refusal_text r = codes "refused " ++ (decimal (number_of r.reason) ++ (codes " " ++ decimal r.place))

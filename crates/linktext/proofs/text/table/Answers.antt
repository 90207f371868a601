-- `linktext::text::table` meets its contract: the first line, and then those of the links. Assumes nothing.
use Rattle.std.proofs.Common.{◌∙◌}
use Rattle.linktext.proofs.LineLaws.{refused_as, no_word, no_count, counted}
use Rattle.linktext.proofs.text.table.Goals as goal

pub returns-in_default-clause-read : goal.returns-in_default-clause-read
returns-in_default-clause-read c = refused_as c.in_line-no_gauges.ensures (no_word c.args.text.now c.in_default.ensures.cases)

pub returns-in_default-line-clause-read : goal.returns-in_default-line-clause-read
returns-in_default-line-clause-read c =
    refused_as c.in_line-no_gauges.ensures (no_count c.args.text.now c.in-Some.ensures.cases c.in_default-line.ensures)

pub returns-clause-read : goal.returns-clause-read
returns-clause-read c = c.links.ensures.read ∙ counted c.args.text.now c.in-Some.ensures.cases c.in-Ok.ensures

-- `records::list` meets its contract: too many records are reason 2, and what is said of the numbers in front is said of the records. Assumes nothing.
use Rattle.std.proofs.Common.{rules, ◌≡◌, refl, ap, ◌∙◌, Err}
use Rattle.links.specs.declared.reply.Reason.TheVariants.{TooManyLinks}
use Rattle.groups.specs.Replies.{outcome_of, refused}
use Rattle.records.proofs.OneReply.{many_2}
use Rattle.records.proofs.list.Goals as goal

pub returns-in_err-n : goal.returns-in_err-n
returns-in_err-n c =
    let same : c.from_residual.result ≡ Err c.in_err-n.field-0.0 = search rules in
    let why : c.from_residual.result ≡ Err (record { reason = TooManyLinks; place = 0 }) = same ∙ ap Err c.in_err-n.ensures.1 in
    let many = many_2 c.args.links.now c.args.gauges c.in_err-n.ensures.0 in
    refused many (ap outcome_of why) refl

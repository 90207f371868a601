-- `linkfile::survey` meets its contract. The loop's invariant: the records passed are an opening record and links, and the outcome is that of reading on.
-- The measure is what is left of the bytes. Assumes nothing.
use Rattle.std.proofs.Common.{◌≡◌, sym, ap, ◌∙◌, Err, rules}
use Rattle.links.specs.Reasons.{number_of}
use Rattle.links.specs.declared.reply.Refusal.{Refusal}
use Rattle.linkfile.specs.Reading.{refused}
use Rattle.linkfile.specs.Replies.{outcome_of}
use Rattle.linkfile.specs.Steps.{RecordAt}
use Rattle.linkfile.proofs.KindLaws.{is_opening, is_link}
use Rattle.linkfile.proofs.ReadLaws.{opening_refused, survey_start, survey_refused, survey_full, survey_link, survey_closing}
use Rattle.linkfile.proofs.survey.Goals as goal

pub returns-in_err-read_record : goal.returns-in_err-read_record
returns-in_err-read_record c =
    let same : c.from_residual.result ≡ Err c.in_err-read_record.field-0.0 = search rules in
    ap outcome_of same ∙ sym (opening_refused c.args.bytes.now c.args.room c.in_err-read_record.ensures)

pub loop-found-init : goal.loop-found-init
loop-found-init c = survey_start c.args.bytes.now c.args.room (is_opening _ c.in_ok-read_record.ensures) c.number-gauges.ensures.is

pub returns-in_err-found : goal.returns-in_err-found
returns-in_err-found c =
    let same : c.from_residual-in_err-found.result ≡ Err c.in_err-found.field-0.0 = search rules in
    ap outcome_of same ∙ sym (survey_refused c.loop-found.invariant c.in_err-found.ensures)

pub returns-then-eq : goal.returns-then-eq
returns-then-eq c =
    let R : RecordAt c.args.bytes.now 3 c.loop-found.at c.in_ok-found.found.next = search rules in
    survey_closing c.loop-found.invariant R c.closing.ensures

pub returns-then-links-room : goal.returns-then-links-room
returns-then-links-room c =
    let R : RecordAt c.args.bytes.now 2 c.loop-found.at c.in_ok-found.found.next = is_link _ c.in_ok-found.ensures (search (rules, c.if-eq.ensures)) in
    ap (λ (r : Refusal). refused (number_of r.reason) r.place) c.at.ensures ∙ sym (survey_full c.loop-found.invariant R c.if-links-room.true)

pub loop-found-preserved : goal.loop-found-preserved
loop-found-preserved c =
    let R : RecordAt c.args.bytes.now 2 c.loop-found.at c.in_ok-found.found.next = is_link _ c.in_ok-found.ensures (search (rules, c.if-eq.ensures)) in
    survey_link c.loop-found.invariant R c.if-links-room.false

-- `linkfile::kinds::read_record` meets its contract: each way out is a law of `KindLaws`. Assumes nothing.
use Rattle.std.proofs.Common.{sym, ap, ◌∙◌}
use Rattle.links.specs.Faults.{fault}
use Rattle.links.specs.Reasons.{number_of}
use Rattle.links.specs.declared.reply.Refusal.{Refusal}
use Rattle.linkfile.specs.Steps.{one_of}
use Rattle.linkfile.proofs.KindLaws.{contained, none_of, wrong_kind, wrong_length, whole_record}
use Rattle.linkfile.proofs.kinds.read_record.Goals as goal

pub returns-in_default : goal.returns-in_default
returns-in_default c =
    wrong_kind _ _ c.in_ok-frame.ensures (one_of c.args.allowed.now) c.number.ensures.is (none_of _ _ c.in_default.ensures)
    ∙ ap (λ (r : Refusal). fault (number_of r.reason) r.place) (sym c.at.ensures)

pub returns-then-not-contains : goal.returns-then-not-contains
returns-then-not-contains c =
    wrong_kind _ _ c.in_ok-frame.ensures (one_of c.args.allowed.now) (c.in-Ok.ensures ∙ c.number.ensures.is)
    (sym (contained c.args.allowed.now c.in-Ok.kind) ∙ sym c.contains.ensures.value ∙ c.if-not-contains.true)
    ∙ ap (λ (r : Refusal). fault (number_of r.reason) r.place) (sym c.at-then-not-contains.ensures)

pub returns-then-number-length : goal.returns-then-number-length
returns-then-number-length c =
    wrong_length _ _ c.in_ok-frame.ensures (one_of c.args.allowed.now) (c.in-Ok.ensures ∙ c.number.ensures.is)
    (sym (contained c.args.allowed.now c.in-Ok.kind) ∙ sym c.contains.ensures.value ∙ c.if-not-contains.false)
    (λ e. c.if-number-length.true (c.number-2.ensures.is ∙ e ∙ sym c.length.ensures))
    ∙ ap (λ (r : Refusal). fault (number_of r.reason) r.place) (sym c.at-then-number-length.ensures)

pub returns : goal.returns
returns c = (
  whole_record _ _ c.in_ok-frame.ensures (one_of c.args.allowed.now) (c.in-Ok.ensures ∙ c.number.ensures.is)
      (sym c.number-2.ensures.is ∙ c.if-number-length.false ∙ c.length.ensures) c.length-2.ensures,
  sym (contained c.args.allowed.now c.in-Ok.kind) ∙ sym c.contains.ensures.value ∙ c.if-not-contains.false,
)

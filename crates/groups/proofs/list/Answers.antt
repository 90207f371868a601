-- `groups::list` meets its contract: its ways out are those of document 01. Assumes nothing.
use Rattle.std.proofs.Common.{rules, ◌≡◌, refl, sym, ap, Err}
use Rattle.links.proofs.Reasons.{no_fault_accepted}
use Rattle.groups.specs.Replies.{outcome_of, refused}
use Rattle.groups.proofs.ListWays.{swept_listing}
use Rattle.groups.proofs.list.Goals as goal

pub returns-in_err-check : goal.returns-in_err-check
returns-in_err-check c =
    let same : c.from_residual.result ≡ Err c.in_err-check.field-0.0 = search rules in
    refused (sym c.in_err-check.ensures) (ap outcome_of same) refl

-- `_` is the reply: the search finds how the calls after the lister's make it of what the lister answered
pub returns : goal.returns
returns c = swept_listing (no_fault_accepted _ _ (sym c.in_ok-check.ensures)) c.list.result _ c.list.ensures (search rules)

-- `report::listing` meets its contract: the input is too long, or no file, or it has the text of its table. Assumes nothing.
use mathlib.Core.Path.{refl, sym, ap}
use native.Mathlib.Omega.{arith}
use lib.Seq.{length-take-le}
use Rattle.links.specs.Reasons.{number_of}
use Rattle.lines.specs.Text.{refusal_of}
use Rattle.report.specs.Listings.{too_long}
use Rattle.report.proofs.Ways.{unread_text, read_few, read_text_lem}
use Rattle.report.proofs.listing.Goals as goal

pub returns-then-input-gt-LARGEST : goal.returns-then-input-gt-LARGEST
returns-then-input-gt-LARGEST c = record { text = _; is = too_long c.if-input-gt-LARGEST.true (ap (λ r. refusal_of (number_of r.reason) r.place) c.at.ensures); put = c.refuse.ensures }

pub overflow_mul-numbers : goal.overflow_mul-numbers
overflow_mul-numbers c = omega (arith, read_few (omega arith) refl c.read.ensures c.in-Ok.is)

pub slice_bounds-numbers-end : goal.slice_bounds-numbers-end
slice_bounds-numbers-end c = omega (arith, c.read.auto.numbers, read_few (omega arith) refl c.read.ensures c.in-Ok.is)

pub slice_bounds-table-end : goal.slice_bounds-table-end
slice_bounds-table-end c = sym (length-take-le _ _ (omega (arith, c.read.auto.numbers, read_few (omega arith) refl c.read.ensures c.in-Ok.is)))

pub returns-in-Err : goal.returns-in-Err
returns-in-Err c =
    record {
      text = _;
      is = unread_text (omega arith) refl c.read.ensures _ c.in-Err.is;
      put = c.refuse-in-Err.ensures;
    }

pub returns-in-Ok : goal.returns-in-Ok
returns-in-Ok c =
    record {
      text = _;
      is = read_text_lem (omega arith) refl c.read.ensures c.in-Ok.is c.table.ensures.is;
      put = c.table.ensures.put;
    }

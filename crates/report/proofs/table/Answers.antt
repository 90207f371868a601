-- `report::table` meets its contract: the table is refused, or its list is put. Assumes nothing.
use mathlib.Core.Path.{refl, sym}
use native.Mathlib.Omega.{arith}
use lib.Seq.{length-take-le}
use Rattle.report.proofs.Ways.{refused_text, listed_fit, listed_few, listed_text}
use Rattle.report.proofs.table.Goals as goal

pub overflow_mul-rows : goal.overflow_mul-rows
overflow_mul-rows c = omega (arith, listed_few refl c.list.ensures c.in-Ok.is)

pub slice_bounds-rows-end : goal.slice_bounds-rows-end
slice_bounds-rows-end c = listed_fit refl c.list.ensures c.in-Ok.is

pub slice_bounds-list-end-in-Ok : goal.slice_bounds-list-end-in-Ok
slice_bounds-list-end-in-Ok c = sym (length-take-le _ _ (listed_fit refl c.list.ensures c.in-Ok.is))

pub returns-in-Err : goal.returns-in-Err
returns-in-Err c =
    record {
      text = _;
      is = refused_text refl c.list.ensures _ c.in-Err.is;
      put = c.refuse.ensures;
    }

pub returns-in-Ok : goal.returns-in-Ok
returns-in-Ok c =
    record {
      text = _;
      is = listed_text refl c.list.ensures c.in-Ok.is;
      put = c.list-in-Ok.ensures;
    }

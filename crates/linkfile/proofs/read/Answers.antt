-- `linkfile::read` meets its contract: where the survey accepts the file the links are taken. Assumes nothing.
use Rattle.std.proofs.Common.{sym, ◌/◌, length, arith}
use Rattle.linkfile.proofs.ReadTold.{told_room, told_front, told_count, told_whole, numbers_taken}
use Rattle.linkfile.proofs.read.Goals as goal

pub overflow_mul-counts : goal.overflow_mul-counts
overflow_mul-counts c = omega (arith, told_room c.args.bytes.now c.args.numbers.now (sym c.in_ok-counts.ensures))

pub slice_bounds-take-end : goal.slice_bounds-take-end
slice_bounds-take-end c = told_room c.args.bytes.now c.args.numbers.now (sym c.in_ok-counts.ensures)

pub slice_bounds-take-end-2 : goal.slice_bounds-take-end-2
slice_bounds-take-end-2 c = sym (told_front c.args.bytes.now c.args.numbers.now (sym c.in_ok-counts.ensures))

pub take-requires : goal.take-requires
take-requires c =
    let e = sym c.in_ok-counts.ensures in
    omega (arith, told_count c.args.bytes.now c.args.numbers.now e, (told_whole c.args.bytes.now (length c.args.numbers.now / 4) e).ended)

pub returns : goal.returns
returns c = record {
  reply = c.in_ok-counts.ensures;
  memory = numbers_taken c.args.bytes.now c.args.numbers.now (sym c.in_ok-counts.ensures) c.take.ensures;
}

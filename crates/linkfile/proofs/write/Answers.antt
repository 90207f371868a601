-- `linkfile::write` meets its contract: each way out is a law of `WriteLaws`. Assumes nothing.
use Rattle.std.proofs.Common.{refl, sym, ap, length, arith}
use Rattle.links.specs.Faults.{no_fault, fault}
use Rattle.links.specs.Reasons.{number_of}
use Rattle.links.specs.declared.reply.Refusal.{Refusal}
use Rattle.links.proofs.Reasons.{no_fault_accepted}
use Rattle.linkfile.proofs.FileLaws.{length_file}
use Rattle.linkfile.proofs.NumberLaws.{put_front}
use Rattle.linkfile.proofs.WriteLaws.{write_short, write_fine, writes_as}
use Rattle.linkfile.proofs.write.Goals as goal

pub returns-then-bytes-size : goal.returns-then-bytes-size
returns-then-bytes-size c =
    writes_as _ _ (write_short c.args.numbers.now c.args.gauges (length c.args.bytes.now) (sym c.in_ok-check.ensures) c.if-bytes-size.true)
    (ap (λ (r : Refusal). fault (number_of r.reason) r.place) c.at.ensures) refl refl

pub put_file-requires : goal.put_file-requires
put_file-requires c = ((no_fault_accepted c.args.numbers.now c.args.gauges (sym c.in_ok-check.ensures)).few, c.if-bytes-size.false)

pub returns : goal.returns
returns c =
    let whole = length_file c.args.numbers.now c.args.gauges in
    writes_as _ no_fault (write_fine c.args.numbers.now c.args.gauges (length c.args.bytes.now) (sym c.in_ok-check.ensures) c.if-bytes-size.false)
    refl (sym whole) (put_front (omega arith) c.put_file.ensures)

-- `linkfile::put_head` meets its contract. Assumes nothing.
use Rattle.std.proofs.Common.{sym, ◌++◌, arith}
use Rattle.linkfile.specs.Numbers.{bytes_of}
use Rattle.linkfile.proofs.NumberLaws.{put_then, put_as, length_bytes}
use Rattle.linkfile.proofs.put_head.Goals as goal

pub returns : goal.returns
returns c =
    put_as (λ i. bytes_of 4 (sym c.length.ensures i) ++ bytes_of 2 (sym c.from.ensures i))
    (put_then c.put.ensures c.put-2.ensures (omega (arith, length_bytes 4 c.length.result)))

-- `linktext::pack` meets its contract: the text is too long, or no table, or its table goes to the writer. Assumes nothing.
use Rattle.std.proofs.Common.{◌≡◌, refl, sym, ap, Err, rules, arith, ◌*◌, length-take-le}
use Rattle.linktext.specs.Replies.{said_of, written_said, no_table, table}
use Rattle.linktext.proofs.PackWays.{written_place}
use Rattle.linktext.proofs.pack.Goals as goal

pub returns-in_err-found : goal.returns-in_err-found
returns-in_err-found c =
    let same : c.from_residual.result ≡ Err c.in_err-found.field-0.0 = search rules in
    no_table (omega (arith, c.if-text-gt-LONGEST.false)) (sym c.in_err-found.ensures.read) (ap said_of same) refl

pub map_err-requires : goal.map_err-requires
map_err-requires c why is =
    let size = length-take-le (4 * c.in_ok-found.found.links) c.table.new.numbers (omega (arith, c.table.auto.numbers, c.in_ok-found.ensures.few)) in
    written_place c.write.ensures is (omega (arith, c.in_ok-found.ensures.few))

pub returns : goal.returns
returns c =
    let said : said_of c.map_err.result ≡ written_said c.write.result = search rules in
    table (omega (arith, c.if-text-gt-LONGEST.false)) (sym c.in_ok-found.ensures.read) c.write.ensures said

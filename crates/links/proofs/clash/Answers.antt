-- `links::clash` meets its contract: links of one pair share an hour if the later begin is no later than the sooner end. Assumes nothing.
use mathlib.Core.Path.{refl}
use native.Mathlib.Omega.{arith}
use Rattle.links.proofs.Pairs.{clash_hours}
use Rattle.links.proofs.clash.Goals as goal

pub returns : goal.returns
returns c =
    clash_hours c.args.numbers.now c.args.i c.args.j refl refl
    {f = c.max-from.result}
    {e = c.min-upto.result}
    (omega (arith, c.max-from.ensures, c.link_at-one.ensures.begin, c.link_at-other.ensures.begin))
    (omega (arith, c.min-upto.ensures, c.link_at-one.ensures.end, c.link_at-other.ensures.end))
    c.requires.2

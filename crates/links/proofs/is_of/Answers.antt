-- `links::is_of` meets its contract: its three ways out are the three cases of the pair of a link. Assumes nothing.
use Rattle.links.proofs.Pairs.{of_first, of_second, of_neither}
use Rattle.links.proofs.is_of.Goals as goal

pub returns-then-one-u : goal.returns-then-one-u
returns-then-one-u c = of_first c.args.numbers.now c.args.i c.args.u c.args.v c.link_at-one.ensures.one c.link_at-one.ensures.other c.if-one-u.true

pub returns-then-one-v : goal.returns-then-one-v
returns-then-one-v c = of_second c.args.numbers.now c.args.i c.args.u c.args.v c.link_at-one.ensures.one c.link_at-one.ensures.other c.if-one-u.false c.if-one-v.true

pub returns-else-one-v : goal.returns-else-one-v
returns-else-one-v c = of_neither c.args.numbers.now c.args.i c.args.u c.args.v c.link_at-one.ensures.one c.link_at-one.ensures.other c.if-one-u.false c.if-one-v.false

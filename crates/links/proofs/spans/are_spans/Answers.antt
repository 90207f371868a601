-- `links::spans::are_spans` meets its contract. Assumes nothing.
use Rattle.std.proofs.Common.{rules}
use Rattle.links.proofs.ApartLaws.{line_passes, formed_spans}
use Rattle.links.proofs.spans.are_spans.Goals as goal

pub are_apart-requires : goal.are_apart-requires
are_apart-requires c = line_passes c.requires c.if-links-gt-MOST_LINKS.false c.if-line-links.false (c.are_formed.ensures c.if-not-are_formed.false) (search rules)

pub returns : goal.returns
returns c = λ e. formed_spans c.if-numbers-gt0.false c.if-links-gt-MOST_LINKS.false (c.are_formed.ensures c.if-not-are_formed.false) (c.are_apart.ensures e)

-- `links::spans::are_apart` meets its contract. Assumes nothing.
use Rattle.std.proofs.Common.{refl, arith, subst}
use Rattle.links.proofs.ApartLaws.{Passed, passed_more, passed_apart}
use Rattle.links.proofs.spans.are_apart.Goals as goal

pub loop-i-preserved : goal.loop-i-preserved
loop-i-preserved c =
    let known = c.requires.known c.loop-i.i-index (omega arith) in
    passed_more c.loop-i.invariant refl (c.requires.formed _ known) c.pair_of-pair.ensures (omega arith) c.link_at-link.ensures.end

pub returns : goal.returns
returns c = λ e. passed_apart c.requires (subst (Passed _ _ _) (omega arith) c.loop-i.invariant)

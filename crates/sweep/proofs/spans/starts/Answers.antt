-- `sweep::spans::starts` meets its contract: it makes ready what the spans take. Assumes nothing.
use Rattle.sweep.proofs.HourLaws.{begin_hour}
use Rattle.sweep.proofs.spans.starts.Goals as goal

pub spans-requires : goal.spans-requires
spans-requires c = (begin_hour c.requires.0 c.graph-adj.ensures c.pairs.ensures c.reach.ensures c.last_end.ensures, c.requires.1, c.requires.2)

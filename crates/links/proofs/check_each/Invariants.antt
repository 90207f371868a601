-- `links::check_each`. The loop's invariant: the links passed have no fault, and are in the chains of their pairs. Assumes nothing.
use Rattle.std.proofs.Common.{◌≡◌}
use Rattle.links.specs.Faults.{links_fault, no_fault}
use Rattle.links.specs.Chains.{Chained}
use Rattle.links.proofs.check_each.Given as goal

abbrev pub invariant-loop-i : goal.invariant-loop-i
invariant-loop-i l = (links_fault l.numbers l.gauges l.i ≡ no_fault) × Chained l.numbers l.chains l.i

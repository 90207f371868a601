-- `linkfile::survey`. The loop's invariant: the records passed are an opening record and links, and the outcome is that of reading on. The measure is what is left of the bytes. Assumes nothing.
use Prim.Native.Nat.{◌-◌}
use lib.ListN.{length}
use Rattle.linkfile.proofs.ReadLaws.{Surveyed}
use Rattle.linkfile.proofs.survey.Given as goal

abbrev pub invariant-loop-found : goal.invariant-loop-found
invariant-loop-found l = Surveyed l.bytes l.room l.gauges l.at l.links

abbrev pub decreases-loop-found : goal.decreases-loop-found
decreases-loop-found l = length l.bytes - l.at

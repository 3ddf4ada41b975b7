-- Those so far.
use Rattle.std.proofs.Common.{◌≤◌, take}
use Rattle.sysmem_merge.specs.Aggregate.{StandsFor}
use Rattle.flat_negotiation.proofs.settling.aggregate_of.Given as goal

abbrev pub invariant-loop-index : goal.invariant-loop-index
invariant-loop-index l = StandsFor l.aggregate l.platform (take l.index l.asked) × (l.aggregate.added ≤ l.index)

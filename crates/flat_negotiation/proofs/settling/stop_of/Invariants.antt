-- Those so far, who share settings, if there are any.
use Rattle.std.proofs.Common.{◌≡◌, ◌≤◌, ◌⊎◌, take, false}
use Rattle.std.specs.Prelude.{IfSome, IsSome}
use Rattle.sysmem_merge.specs.Aggregate.{StandsFor}
use Rattle.sysmem_merge.specs.Best.{IsBest}
use Rattle.flat_negotiation.proofs.settling.stop_of.Given as goal

abbrev pub invariant-loop-who : goal.invariant-loop-who
invariant-loop-who l = StandsFor l.aggregate l.platform (take l.who l.asked) × (l.aggregate.added ≤ l.who) × IfSome l.shared (IsBest false l.platform (take l.who l.asked)) × ((l.who ≡ 0) ⊎ IsSome l.shared)

-- Those so far are the platform's.
use Rattle.std.proofs.Common.{◌≡◌, take}
use Rattle.other_outcomes.proofs.platforms.heaps_of.Given as goal

abbrev pub invariant-loop-info : goal.invariant-loop-info
invariant-loop-info l = l.heaps.items ≡ take l.info-index l.info-items

-- Those so far.
use Rattle.std.proofs.Common.{◌≡◌, take}
use Rattle.flat_negotiation.specs.Heaps.{heaps_said}
use Rattle.flat_negotiation.proofs.parts.heaps.heaps_of.Given as goal

abbrev pub invariant-loop-index : goal.invariant-loop-index
invariant-loop-index l = l.heaps.items ≡ heaps_said 0 (take l.index l.flats)

-- Those so far.
use Rattle.std.proofs.Common.{◌≡◌, ◌≤◌}
use Rattle.flat_negotiation.specs.Heaps.{permitted_said}
use Rattle.flat_negotiation.proofs.parts.wishes.permitted_heaps.Given as goal

abbrev pub invariant-loop-index : goal.invariant-loop-index
invariant-loop-index l = (l.heaps.items ≡ permitted_said l.index l.bits) × (l.index ≤ l.most)

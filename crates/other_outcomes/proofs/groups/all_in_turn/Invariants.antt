-- Those so far are on their names at the new places.
use Rattle.std.proofs.Common.{◌≡◌, map, take}
use Rattle.other_outcomes.specs.Earlier.{in_turn}
use Rattle.other_outcomes.proofs.groups.all_in_turn.Given as goal

abbrev pub invariant-loop-call : goal.invariant-loop-call
invariant-loop-call l = l.made.items ≡ map (in_turn l.first l.second) (take l.call-index l.calls)

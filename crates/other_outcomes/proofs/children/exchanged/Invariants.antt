-- Those so far are on the other name.
use Rattle.std.proofs.Common.{◌≡◌, map, take}
use Rattle.other_outcomes.specs.Exchanged.{on_other}
use Rattle.other_outcomes.proofs.children.exchanged.Given as goal

abbrev pub invariant-loop-call : goal.invariant-loop-call
invariant-loop-call l = l.made.items ≡ map (on_other l.a l.b) (take l.call-index l.calls)

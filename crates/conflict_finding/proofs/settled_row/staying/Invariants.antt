-- Those so far are among the nodes.
use Rattle.std.specs.Prelude.{All, Contains}
use Rattle.conflict_finding.proofs.settled_row.staying.Given as goal

abbrev pub invariant-loop-node : goal.invariant-loop-node
invariant-loop-node l = All (Contains l.nodes) l.stay.items

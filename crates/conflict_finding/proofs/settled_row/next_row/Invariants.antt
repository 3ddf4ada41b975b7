-- Those in the row are among the nodes, and the nodes so far are in it.
use Rattle.std.proofs.Common.{take}
use Rattle.std.specs.Prelude.{All, Contains}
use Rattle.conflict_finding.proofs.settled_row.next_row.Given as goal

abbrev pub invariant-loop-node : goal.invariant-loop-node
invariant-loop-node l = record {
  among : All (Contains l.nodes) l.next.items;
  all : All (Contains l.next.items) (take l.node-index l.nodes);
}

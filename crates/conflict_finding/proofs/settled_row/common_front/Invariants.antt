-- So far both have the same nodes.
use Rattle.std.proofs.Common.{◌≡◌, ◌≤◌, length, take}
use Rattle.conflict_finding.proofs.settled_row.common_front.Given as goal

abbrev pub invariant-loop-index : goal.invariant-loop-index
invariant-loop-index l = record {
  same : take l.index l.row ≡ take l.index l.next;
  few : l.index ≤ length l.next;
}

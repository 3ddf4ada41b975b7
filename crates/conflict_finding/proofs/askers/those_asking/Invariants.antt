-- Those so far who ask something.
use Rattle.std.proofs.Common.{◌≡◌, take}
use Rattle.std.specs.Prelude.{All, Contains, filter}
use Rattle.sysmem_tree.specs.Nodes.{HasNode}
use Rattle.verdict_claims.specs.Members.{members_at, participants}
use Rattle.conflict_finding.specs.Askers.{is_asker}
use Rattle.conflict_finding.proofs.askers.those_asking.Given as goal

abbrev pub invariant-loop-node : goal.invariant-loop-node
invariant-loop-node l = record {
  there : All (HasNode l.tree.nodes) l.some.items;
  among : All (Contains l.nodes) l.some.items;
  asks : participants (members_at l.tree.nodes l.some.items) ≡ filter is_asker (participants (members_at l.tree.nodes (take l.node-index l.nodes)));
}

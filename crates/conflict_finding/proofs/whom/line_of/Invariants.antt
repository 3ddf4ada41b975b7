-- Those so far whom the line names.
use Rattle.std.proofs.Common.{◌≡◌, map, take}
use Rattle.conflict_finding.specs.AloneLines.{AreAlone}
use Rattle.verdict_claims.specs.Members.{members_at}
use Rattle.conflict_finding.specs.Whom.{members_named}
use Rattle.conflict_finding.proofs.whom.line_of.Given as goal

abbrev pub invariant-loop-node : goal.invariant-loop-node
invariant-loop-node l = record {
  alone : AreAlone l.those.tree.now.nodes l.alone;
  paths : l.paths ≡ map (λ m. m.path) (members_named l.whom (members_at l.those.tree.now.nodes (take l.node-index l.those.nodes.now)));
}

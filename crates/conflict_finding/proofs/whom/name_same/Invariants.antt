-- Those so far whom both name are the same.
use Rattle.std.proofs.Common.{◌≡◌, map, take}
use Rattle.verdict_claims.specs.Members.{members_at}
use Rattle.conflict_finding.specs.Whom.{members_named}
use Rattle.conflict_finding.proofs.whom.name_same.Given as goal

abbrev pub invariant-loop-node : goal.invariant-loop-node
invariant-loop-node l = map (λ m. m.path) (members_named l.one (members_at l.those.tree.now.nodes (take l.node-index l.those.nodes.now)))
    ≡ map (λ m. m.path) (members_named l.other (members_at l.those.tree.now.nodes (take l.node-index l.those.nodes.now)))

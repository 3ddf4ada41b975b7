-- None of those so far is refused the place.
use Rattle.std.proofs.Common.{take}
use Rattle.std.specs.Prelude.{All}
use Rattle.sysmem_memory.specs.PlaceTable.{AllowsPlace}
use Rattle.verdict_claims.specs.Members.{members_at, participants}
use Rattle.conflict_finding.specs.PlacesAsked.{AreAsked}
use Rattle.conflict_finding.proofs.first_refusing.first_refused.Given as goal

abbrev pub invariant-loop-node : goal.invariant-loop-node
invariant-loop-node l = record {
  asked : AreAsked l.those.tree.now.nodes l.those.platform.now.heaps l.asked;
  allowed : All (λ p. AllowsPlace p.memory p.usage l.heap l.place.coherency) (participants (members_at l.those.tree.now.nodes (take l.node-index l.those.nodes.now)));
}

-- A line for each place of the heaps so far.
use Rattle.std.proofs.Common.{List, drop}
use Rattle.sysmem_memory.specs.Listed.{places_from, places_of}
use Rattle.sysmem_tree.specs.Shape.{Member}
use Rattle.conflict_finding.specs.Learnt.{IsLearnt}
use Rattle.verdict_claims.specs.FirstConflict.{IsPlaceLineGiven}
use Rattle.verdict_claims.specs.Members.{members_at, StandFor}
use Rattle.conflict_finding.specs.Refusals.{AreSoFar}
use Rattle.conflict_finding.proofs.refusals.refused_places.Given as goal

abbrev pub invariant-loop-index : goal.invariant-loop-index
invariant-loop-index l = record {
  learnt : IsLearnt l.those.tree.now.nodes l.those.platform.now.heaps l.learnt;
  places : (ms : List Member) → StandFor (members_at l.those.tree.now.nodes l.those.nodes.now) ms
      → AreSoFar (IsPlaceLineGiven ms) (places_of l.those.platform.now.heaps) l.lines.items (places_from l.index (drop l.index l.those.platform.now.heaps));
}

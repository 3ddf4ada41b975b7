-- The settings fail none of those so far.
use Rattle.std.proofs.Common.{take}
use Rattle.std.specs.Prelude.{All}
use Rattle.sysmem_merge.specs.Settings.{CoversOn}
use Rattle.verdict_claims.specs.Members.{members_at, participants}
use Rattle.conflict_finding.proofs.first_refusing.first_failing.Given as goal

abbrev pub invariant-loop-node : goal.invariant-loop-node
invariant-loop-node l = All (CoversOn l.platform l.settings) (participants (members_at l.tree.nodes (take l.node-index l.nodes)))

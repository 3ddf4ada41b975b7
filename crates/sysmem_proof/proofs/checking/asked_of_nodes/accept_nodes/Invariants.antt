-- Those so far accept the settings.
use Rattle.std.proofs.Common.{All, take}
use Rattle.sysmem_merge.specs.Settings.{CoversOn}
use Rattle.verdict_claims.specs.Asked.{asked_in}
use Rattle.sysmem_proof.proofs.checking.asked_of_nodes.accept_nodes.Given as goal

abbrev pub invariant-loop-node : goal.invariant-loop-node
invariant-loop-node l = All (CoversOn l.platform l.settings) (asked_in l.tree.nodes (take l.node-index l.nodes))

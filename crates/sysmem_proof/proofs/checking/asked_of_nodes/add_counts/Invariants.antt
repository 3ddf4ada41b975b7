-- What was counted so far.
use Rattle.std.proofs.Common.{◌≤◌, ◌+◌, ◌*◌, ◌^◌, ◌++◌, List, take}
use Rattle.sysmem_counts.specs.Bounds.{IsTallyOf}
use Rattle.sysmem_counts.specs.Tally.{sum_of}
use Rattle.sysmem_counts.specs.declared.constraints.CountConstraints.{CountConstraints}
use Rattle.offer_fits.specs.Demands.{counts_asked}
use Rattle.verdict_claims.specs.Asked.{asked_in}
use Rattle.sysmem_proof.proofs.checking.asked_of_nodes.add_counts.Given as goal

abbrev pub invariant-loop-node : goal.invariant-loop-node
invariant-loop-node l = record {
  added : (ps : List CountConstraints) → IsTallyOf l.fn.counts ps → IsTallyOf l.counts (ps ++ counts_asked (asked_in l.tree.nodes (take l.node-index l.nodes)));
  grows : sum_of l.counts ≤ sum_of l.fn.counts + l.node-index * 2 ^ 33;
}

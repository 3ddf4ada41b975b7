-- What was counted so far.
use Rattle.std.proofs.Common.{◌≤◌, ◌*◌, ◌^◌, take}
use Rattle.sysmem_counts.specs.Bounds.{IsTallyOf}
use Rattle.sysmem_counts.specs.Tally.{sum_of}
use Rattle.offer_fits.specs.Demands.{counts_asked}
use Rattle.verdict_claims.specs.Members.{members_at, participants}
use Rattle.conflict_finding.proofs.count_lines.counts_at.Given as goal

abbrev pub invariant-loop-node : goal.invariant-loop-node
invariant-loop-node l = record {
  stands : IsTallyOf l.counts (counts_asked (participants (members_at l.tree.nodes (take l.node-index l.nodes))));
  few : sum_of l.counts ≤ l.node-index * 2 ^ 33;
}

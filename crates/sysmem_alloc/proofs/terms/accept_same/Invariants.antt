use Rattle.std.proofs.Common.{◌≡◌, ◌↔◌, ◌≤◌, drop, length}
use Rattle.verdict_claims.specs.Members.{members_at}
use Rattle.sysmem_alloc.specs.Accepted.{marked_of}
use Rattle.sysmem_alloc.proofs.terms.accept_same.Given as goal

-- all show the same exactly where those that are left do
abbrev pub invariant-loop-node : goal.invariant-loop-node
invariant-loop-node l = record {
  within : l.at ≤ length l.accepted;
  same : (members_at l.tree.nodes (marked_of l.marks (drop l.node-index l.chosen)) ≡ members_at l.others.nodes (drop l.at l.accepted))
      ↔ (members_at l.tree.nodes (marked_of l.marks l.chosen) ≡ members_at l.others.nodes l.accepted);
}

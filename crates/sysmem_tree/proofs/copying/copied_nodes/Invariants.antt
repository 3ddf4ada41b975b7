use Rattle.std.proofs.Common.{◌≡◌, ◌≤◌, take}
use Rattle.std.specs.Vec.{vec_capacity}
use Rattle.sysmem_tree.proofs.copying.copied_nodes.Given as goal

-- the nodes so far are copied, and there is room for the others
abbrev pub invariant-loop-node : goal.invariant-loop-node
invariant-loop-node l = (l.copy.items ≡ take l.node-index l.fn.nodes) × (128 ≤ vec_capacity l.copy)

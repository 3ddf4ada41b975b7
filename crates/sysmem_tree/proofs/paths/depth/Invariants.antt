use Rattle.std.proofs.Common.{◌≡◌, ◌≤◌, ◌<◌, ◌+◌, length}
use Rattle.sysmem_tree.specs.Path.{path_of}
use Rattle.sysmem_tree.proofs.paths.depth.Given as goal

-- the steps so far and those that lead to here are all; and each goes to an older node
abbrev pub invariant-loop-birth : goal.invariant-loop-birth
invariant-loop-birth l = (l.number < length l.nodes) × (l.steps + l.number ≤ l.node) × (l.steps + length (path_of l.nodes l.number) ≡ length (path_of l.nodes l.node))

-- a parent is older than its child
abbrev pub decreases-loop-birth : goal.decreases-loop-birth
decreases-loop-birth l = l.number

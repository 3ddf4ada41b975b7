use Rattle.std.proofs.Common.{◌≡◌, ◌<◌, length, Some}
use Rattle.std.specs.Prelude.{reverse}
use Rattle.sysmem_tree.specs.Path.{led_to}
use Rattle.sysmem_tree.proofs.paths.path_to.Given as goal

-- the ordinals so far, the last one first, lead from here to the node
abbrev pub invariant-loop-birth : goal.invariant-loop-birth
invariant-loop-birth l = (l.number < length l.fn.nodes) × (led_to l.fn.nodes l.number (reverse l.path.items) ≡ Some l.fn.node)

-- a parent is older than its child
abbrev pub decreases-loop-birth : goal.decreases-loop-birth
decreases-loop-birth l = l.number

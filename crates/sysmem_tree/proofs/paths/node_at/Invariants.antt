use Rattle.std.proofs.Common.{◌≡◌, ◌<◌, drop, length}
use Rattle.sysmem_tree.specs.Path.{led_to}
use Rattle.sysmem_tree.proofs.paths.node_at.Given as goal

-- from the node so far, the ordinals that are left lead where all do from the root
abbrev pub invariant-loop-ordinal : goal.invariant-loop-ordinal
invariant-loop-ordinal l = (led_to l.fn.nodes l.number (drop l.ordinal-index l.fn.path) ≡ led_to l.fn.nodes 0 l.fn.path) × (l.number < length l.fn.nodes)

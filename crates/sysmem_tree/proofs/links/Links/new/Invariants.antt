-- The links among the nodes that were passed.
use Rattle.std.proofs.Common.{◌≡◌, ◌-◌, ◌≤◌, ◌<◌, length}
use Rattle.sysmem_tree.specs.Links.{AreLinks}
use Rattle.sysmem_tree.proofs.links.Links.new.Given as goal

abbrev pub invariant-loop-number : goal.invariant-loop-number
invariant-loop-number l = (l.root < l.number) × (l.number ≤ length l.nodes) × (length l.links.next ≡ 128)
    × AreLinks l.nodes l.root l.number l.links

abbrev pub decreases-loop-number : goal.decreases-loop-number
decreases-loop-number l = l.number - l.root

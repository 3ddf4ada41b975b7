-- How many nodes may still be counted.
use Rattle.std.proofs.Common.{length}
use Rattle.sysmem_tree.proofs.count.+count_children.Given as goal
use Rattle.sysmem_tree.proofs.forests.Linking.{left_from}

abbrev pub decreases-count_children : goal.decreases-count_children
decreases-count_children l = left_from (length l.nodes.now) l.first

-- How many nodes may still be laid out.
use Rattle.std.proofs.Common.{length}
use Rattle.sysmem_tree.proofs.layout.+lay.Given as goal
use Rattle.sysmem_tree.proofs.forests.Linking.{left_from}

abbrev pub decreases-lay : goal.decreases-lay
decreases-lay l = left_from (length l.nodes.now) l.what.first

use Rattle.sysmem_tree.specs.Tree.{closed_early}
use Rattle.sysmem_tree.proofs.nodes.Writes.{written_next}
use Rattle.sysmem_tree.proofs.standing.close_early.Goals as goal

pub loop-domain-preserved : goal.loop-domain-preserved
loop-domain-preserved c =
    written_next (closed_early c.args.root) c.args.domains.now c.loop-domain.domains c.loop-domain.domain-index _ _ c.loop-domain.invariant c.loop-domain-test.true c.close_early.ensures

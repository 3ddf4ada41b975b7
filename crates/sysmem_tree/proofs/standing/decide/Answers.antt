use Rattle.sysmem_tree.specs.Tree.{decided_domain}
use Rattle.sysmem_tree.proofs.nodes.Writes.{written_next}
use Rattle.sysmem_tree.proofs.standing.decide.Goals as goal

pub loop-domain-preserved : goal.loop-domain-preserved
loop-domain-preserved c =
    written_next (decided_domain c.args.root c.args.decision) c.args.domains.now c.loop-domain.domains c.loop-domain.domain-index _ _ c.loop-domain.invariant c.loop-domain-test.true c.decide.ensures

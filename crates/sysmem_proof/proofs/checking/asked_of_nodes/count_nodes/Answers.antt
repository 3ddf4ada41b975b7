-- Those accepted before, and then the others.
use Rattle.std.proofs.Common.{[], subst}
use Rattle.sysmem_counts.specs.Bounds.{IsTallyOf}
use Rattle.sysmem_proof.proofs.Asking.{counts_both}
use Rattle.sysmem_proof.proofs.checking.asked_of_nodes.count_nodes.Goals as goal

pub returns : goal.returns
returns c = subst (IsTallyOf c.add_counts-2.new.counts) (counts_both c.args.tree.now.nodes c.args.accepted.now c.args.nodes.now)
    (c.add_counts-2.ensures.added _ (c.add_counts.ensures.added [] c.new-counts.ensures.stands))

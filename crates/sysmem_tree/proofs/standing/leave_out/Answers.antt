-- One node more is marked.
use Rattle.sysmem_tree.proofs.domains.LeavingOut.{left_next}
use Rattle.sysmem_tree.proofs.standing.leave_out.Goals as goal

pub loop-number-preserved : goal.loop-number-preserved
loop-number-preserved c = λ numbers are.
    left_next numbers c.args.root c.args.nodes.now c.loop-number.nodes c.loop-number.number _ _ _ (c.loop-number.invariant numbers are) c.loop-number-test.true (are c.loop-number.number) c.leave_out.ensures

use Rattle.std.proofs.Common.{◌∙◌, sym}
use Rattle.sysmem_tree.proofs.nodes.Leading.{led_on, led_off}
use Rattle.sysmem_tree.proofs.paths.node_at.Goals as goal

pub returns-in_err-number-clause-node : goal.returns-in_err-number-clause-node
returns-in_err-number-clause-node c =
    c.from_residual.ensures ∙ (led_off c.args.nodes.now c.args.path.now c.loop-ordinal.number c.loop-ordinal.ordinal-index c.loop-ordinal-test.true (sym c.child_of.ensures.child ∙ c.in_err-number.was) ∙ c.loop-ordinal.invariant.0)

pub loop-ordinal-preserved : goal.loop-ordinal-preserved
loop-ordinal-preserved c =
    (led_on c.args.nodes.now c.args.path.now c.loop-ordinal.number c.in_ok-number.number c.loop-ordinal.ordinal-index c.loop-ordinal-test.true (sym c.child_of.ensures.child ∙ c.in_ok-number.was) ∙ c.loop-ordinal.invariant.0, c.in_ok-number.ensures.there)

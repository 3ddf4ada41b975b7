use Rattle.std.proofs.Common.{◌≡◌, ◌<◌, ◌+◌, ◌∙◌, true, ap, arith, slice_set, subst, sym}
use Rattle.sysmem_tree.specs.Node.{is_awaited}
use Rattle.sysmem_tree.proofs.domains.Sweeping.{AreMet, meets_none, meets_all, meets_awaited, meets_other, node_below, node_read}
use Rattle.sysmem_tree.proofs.sweep.awaiting.Goals.{then-is_awaited, else-is_awaited}
use Rattle.sysmem_tree.proofs.sweep.awaiting.Goals as goal

pub loop-number-init : goal.loop-number-init
loop-number-init c = meets_none c.args.nodes.now

pub bounds-marks-domain : goal.bounds-marks-domain
bounds-marks-domain c =
    let here = node_read c.args.nodes.now c.loop-number.number c.index-nodes-number.result (omega (arith, c.loop-number-test.true)) c.index-nodes-number.is in
    let below = node_below c.args.nodes.now c.requires c.loop-number.number c.index-nodes-number.result here in
    subst (λ d. d < 128) (sym c.domain.ensures) below

pub loop-number-preserved : goal.loop-number-preserved
loop-number-preserved c =
    let here = node_read c.args.nodes.now c.loop-number.number c.index-nodes-number.result (omega (arith, c.loop-number-test.true)) c.index-nodes-number.is in
    let below = node_below c.args.nodes.now c.requires c.loop-number.number c.index-nodes-number.result here in
    let waits : c.is_awaited.result ≡ is_awaited c.index-nodes-number.result.state = c.is_awaited.ensures ∙ ap is_awaited c.state.ensures in
    elim c.if-is_awaited.branch [
      | then-is_awaited w ↦ subst (λ ms. AreMet c.args.nodes.now ms (c.loop-number.number + 1)) (sym (w.marks-is ∙ ap (λ d. slice_set c.loop-number.marks d true) w.domain.ensures))
          (meets_awaited c.args.nodes.now c.loop-number.number c.index-nodes-number.result here c.loop-number.marks c.loop-number.invariant below (sym waits ∙ w.if-is_awaited.true))
      | else-is_awaited w ↦ subst (λ ms. AreMet c.args.nodes.now ms (c.loop-number.number + 1)) (sym w.marks-is)
          (meets_other c.args.nodes.now c.loop-number.number c.index-nodes-number.result here c.loop-number.marks c.loop-number.invariant (sym waits ∙ w.if-is_awaited.false))
    ]

pub returns : goal.returns
returns c = meets_all c.args.nodes.now c.loop-number.marks c.loop-number.number (omega (arith, c.loop-number-test.false)) c.loop-number.invariant

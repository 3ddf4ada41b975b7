use Rattle.std.proofs.Common.{arith}
use Rattle.sysmem_tree.proofs.domains.Sweeping.{one_at, place_below, root_below, ready_starts, ready_on, ready_ends}
use Rattle.sysmem_tree.proofs.sweep.ready_domains.Goals as goal

pub loop-index-init : goal.loop-index-init
loop-index-init c = ready_starts _

pub bounds-awaiting-root : goal.bounds-awaiting-root
bounds-awaiting-root c = root_below _ c.requires.tree c.requires.rising c.loop-index.index _ (one_at c.args.domains.now c.loop-index.index (omega (arith, c.loop-index-test.true)))

pub bounds-failed-index : goal.bounds-failed-index
bounds-failed-index c = place_below _ c.requires.tree c.requires.rising c.loop-index.index _ (one_at c.args.domains.now c.loop-index.index (omega (arith, c.loop-index-test.true)))

pub bounds-marks-index : goal.bounds-marks-index
bounds-marks-index c = place_below _ c.requires.tree c.requires.rising c.loop-index.index _ (one_at c.args.domains.now c.loop-index.index (omega (arith, c.loop-index-test.true)))

pub loop-index-preserved : goal.loop-index-preserved
loop-index-preserved c =
    ready_on _ c.requires.tree c.requires.rising c.loop-index.index _ (one_at c.args.domains.now c.loop-index.index (omega (arith, c.loop-index-test.true)))
    c.awaiting-awaiting.result c.failed_domains-failed.result c.loop-index.marks c.awaiting-awaiting.ensures c.failed_domains-failed.ensures c.is_ready.result c.is_ready.ensures c.loop-index.invariant

pub returns : goal.returns
returns c = ready_ends _ c.loop-index.marks c.loop-index.index (omega (arith, c.loop-index-test.false)) c.loop-index.invariant

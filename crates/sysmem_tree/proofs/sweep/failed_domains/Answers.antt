use Rattle.std.proofs.Common.{arith}
use Rattle.sysmem_tree.proofs.domains.Sweeping.{one_at, place_below, root_below, sweep_starts, sweep_on, sweep_ends}
use Rattle.sysmem_tree.proofs.sweep.failed_domains.Goals as goal

pub loop-index-init : goal.loop-index-init
loop-index-init c = sweep_starts _

pub bounds-marks-index : goal.bounds-marks-index
bounds-marks-index c = place_below _ c.requires.tree c.requires.rising c.loop-index.index _ (one_at c.args.domains.now c.loop-index.index (omega (arith, c.loop-index-test.true)))

pub bounds-failed-one : goal.bounds-failed-one
bounds-failed-one c = root_below _ c.requires.tree c.requires.rising c.loop-index.index _ (one_at c.args.domains.now c.loop-index.index (omega (arith, c.loop-index-test.true)))

pub bounds-decisions-one : goal.bounds-decisions-one
bounds-decisions-one c = root_below _ c.requires.tree c.requires.rising c.loop-index.index _ (one_at c.args.domains.now c.loop-index.index (omega (arith, c.loop-index-test.true)))

pub loop-index-preserved : goal.loop-index-preserved
loop-index-preserved c =
    sweep_on _ c.requires.tree c.requires.rising c.loop-index.index _ (one_at c.args.domains.now c.loop-index.index (omega (arith, c.loop-index-test.true)))
    c.loop-index.marks c.loop-index.failed c.loop-index.decisions c.loop-index.invariant c.has_failed-has_failed.result c.has_failed-has_failed.ensures

pub returns : goal.returns
returns c = sweep_ends _ c.loop-index.marks c.loop-index.failed c.loop-index.decisions c.loop-index.index (omega (arith, c.loop-index-test.false)) c.loop-index.invariant

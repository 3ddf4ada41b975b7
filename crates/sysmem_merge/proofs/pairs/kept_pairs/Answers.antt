use Rattle.std.proofs.Common.{arith}
use Rattle.std.proofs.lemmas.Option.{slice_get-get_or}
use Rattle.sysmem_merge.proofs.PairLists.{pair_more, pairs_new}
use Rattle.sysmem_merge.proofs.pairs.kept_pairs.Goals as goal

pub loop-pair-preserved : goal.loop-pair-preserved
loop-pair-preserved c =
    rw c.in_ok-push.ensures.items (pair_more c.loop-pair.pair-index c.args.pairs.now c.loop-pair.kept.items _ c.new.result
    (slice_get-get_or c.args.pairs.now c.loop-pair.pair-index _ (omega arith)) c.new.ensures c.loop-pair.invariant)

pub returns : goal.returns
returns c = pairs_new c.loop-pair.pair-index c.args.pairs.now c.loop-pair.kept.items (omega arith) c.loop-pair.invariant

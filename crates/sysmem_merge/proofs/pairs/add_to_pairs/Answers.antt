use Rattle.std.proofs.Common.{arith, ◌++◌, ◌∷◌, []}
use Rattle.std.proofs.lemmas.Option.{slice_get-get_or}
use Rattle.sysmem_merge.proofs.PairLists.{none_done, one_done, all_done}
use Rattle.sysmem_merge.proofs.pairs.add_to_pairs.Goals as goal

pub loop-index-init : goal.loop-index-init
loop-index-init c ds d same are = none_done c.args.pairs.now (ds ++ d ∷ []) ds c.args.kept.now are

pub loop-index-preserved : goal.loop-index-preserved
loop-index-preserved c ds d same are =
    one_done c.loop-index.index c.args.pairs.now (ds ++ d ∷ []) ds c.loop-index.kept _ c.add_at.new.kept
    (slice_get-get_or c.loop-index.kept c.loop-index.index c.index-kept-index.result (omega arith))
    (λ pair there kept. c.add_at.ensures pair ds d there same kept)
    (c.loop-index.invariant ds d same are)

pub returns : goal.returns
returns c ds d same are =
    all_done c.loop-index.index c.args.pairs.now (ds ++ d ∷ []) ds c.loop-index.kept (omega arith) (c.loop-index.invariant ds d same are)

use Rattle.std.proofs.Common.{arith, ◌≡◌, ◌+◌, ◌++◌, subst}
use Rattle.sysmem_merge.specs.Pairs.{ArePairsJoined}
use Rattle.sysmem_merge.proofs.PairLists.{joined_within}
use Rattle.sysmem_merge.proofs.pairs.join_pairs.Goals as goal

pub loop-index-preserved : goal.loop-index-preserved
loop-index-preserved c pairs low ds es order lies was above more =
    c.join_at.ensures pairs low ds es (omega (arith, lies)) (c.loop-index.invariant pairs low ds es order lies was above more)
    (joined_within low c.args.to low (c.loop-index.index + 1) pairs ds c.args.above.now (omega (arith, above.within)) (λ k from below. (from, omega (arith, below))) above) more

pub returns : goal.returns
returns c pairs low ds es order lies was above more =
    let all : c.loop-index.index ≡ c.args.to = omega (arith, order) in
    subst (λ n. ArePairsJoined low n pairs (ds ++ es) c.loop-index.kept) all (c.loop-index.invariant pairs low ds es order lies was above more)

use Rattle.sysmem_merge.proofs.PairLists.{ArePairsNew}
use Rattle.sysmem_merge.proofs.pairs.kept_pairs.Given as goal

-- each pair so far is kept
abbrev pub invariant-loop-pair : goal.invariant-loop-pair
invariant-loop-pair l = ArePairsNew l.pair-index l.pairs l.kept.items

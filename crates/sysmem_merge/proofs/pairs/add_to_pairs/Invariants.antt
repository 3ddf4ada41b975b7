use Rattle.std.proofs.Common.{◌≡◌, List, ◌++◌, ◌∷◌, []}
use Rattle.sysmem_merge.specs.Demands.{OfferDemand}
use Rattle.sysmem_merge.specs.Pairs.{ArePairsKept}
use Rattle.sysmem_merge.proofs.PairLists.{ArePairsUpTo}
use Rattle.sysmem_merge.proofs.pairs.add_to_pairs.Given as goal

-- each pair so far has the participant too
abbrev pub invariant-loop-index : goal.invariant-loop-index
invariant-loop-index l = (ds : List OfferDemand) (d : OfferDemand) → d.entries ≡ l.matches → ArePairsKept l.pairs ds l.initial.kept
    → ArePairsUpTo l.index l.pairs (ds ++ d ∷ []) ds l.kept

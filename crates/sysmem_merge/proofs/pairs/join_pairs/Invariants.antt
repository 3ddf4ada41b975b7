use Rattle.std.proofs.Common.{ℕ, ◌<◌, ◌≤◌, List, ◌++◌}
use Rattle.sysmem_formats.specs.declared.offer.Pair.{Pair}
use Rattle.sysmem_merge.specs.Demands.{OfferDemand}
use Rattle.sysmem_merge.specs.Pairs.{ArePairsJoined, ArePairsKept}
use Rattle.sysmem_merge.proofs.pairs.join_pairs.Given as goal

-- the pairs so far are joined
abbrev pub invariant-loop-index : goal.invariant-loop-index
invariant-loop-index l = (pairs : List Pair) (low : ℕ) (ds es : List OfferDemand) → l.from ≤ l.to → (l.from < l.to → low ≤ l.from)
    → ArePairsJoined low l.from pairs (ds ++ es) l.initial.kept → ArePairsJoined low l.to pairs ds l.above → ArePairsKept pairs es l.more → ArePairsJoined low l.index pairs (ds ++ es) l.kept

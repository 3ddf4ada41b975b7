-- Of each so far what later ones in the row said is forgotten.
use Rattle.std.proofs.Common.{◌≡◌, ◌≤◌, ℕ, List, length, take}
use Rattle.std.specs.Prelude.{All}
use Rattle.sysmem_tree.specs.Node.{NodeFacts}
use Rattle.conflict_finding.specs.OfferAsked.{IsOfferAsked}
use Rattle.conflict_finding.proofs.FrontReads.{AreUpTo}
use Rattle.conflict_finding.proofs.offers_asked.cut_each.Given as goal

abbrev pub invariant-loop-one : goal.invariant-loop-one
invariant-loop-one l = (nodes : List NodeFacts) (row other : List ℕ) → take l.many row ≡ take l.many other → l.many ≤ length other
    → All (IsOfferAsked nodes row) l.initial.offers → AreUpTo (IsOfferAsked nodes other) (IsOfferAsked nodes row) l.one-index l.offers

-- What was there so far is true of the same ones, and of what is new nobody was asked.
use Rattle.std.proofs.Common.{ℕ, List}
use Rattle.std.specs.Prelude.{All}
use Rattle.sysmem_tree.specs.Node.{NodeFacts}
use Rattle.conflict_finding.specs.OfferAsked.{IsOfferAsked}
use Rattle.conflict_finding.proofs.offers_asked.fill.Given as goal

abbrev pub invariant-loop-more : goal.invariant-loop-more
invariant-loop-more l = (nodes : List NodeFacts) (row : List ℕ) → All (IsOfferAsked nodes row) l.initial.offers.items → All (IsOfferAsked nodes row) l.offers.items

-- What participants said of offers.
use Rattle.std.specs.Prelude.{ℕ, List, All, Contains}
use Rattle.sysmem_tree.specs.Node.{NodeFacts}
use Rattle.sysmem_tree.specs.Nodes.{HasNode}
use Rattle.conflict_finding.specs.declared.offers_asked.OffersAsked.{OffersAsked}
use Rattle.conflict_finding.specs.Askers.{AreAskers}
use Rattle.conflict_finding.specs.OfferAsked.{IsOfferAsked}

-- these are the others, in any order
pub record AreThose (some others : List ℕ) : Type 0 where
  pub among : All (Contains others) some
  pub all : All (Contains some) others

-- what is kept of each offer is true of the first in the row
pub record AreOffersAsked (nodes : List NodeFacts) (asked : OffersAsked) : Type 0 where
  pub there : All (HasNode nodes) asked.row.items
  pub each : All (IsOfferAsked nodes asked.row.items) asked.offers.items

-- and those of these who ask something of offers are in the row
pub record AreAskedOf (nodes : List NodeFacts) (ns : List ℕ) (asked : OffersAsked) : Type 0 where
  pub known : AreOffersAsked nodes asked
  pub askers : List ℕ
  pub some : AreAskers nodes ns askers
  pub row : AreThose asked.row.items askers

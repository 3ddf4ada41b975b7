use Rattle.std.proofs.Common.{◌≡◌, List}
use Rattle.sysmem_formats.specs.Offers.{offers}
use Rattle.sysmem_merge.specs.Aggregate.{AreKept}
use Rattle.sysmem_merge.specs.Demands.{OfferDemand}
use Rattle.sysmem_merge.proofs.Many.{AreKeptUpTo}
use Rattle.sysmem_merge.proofs.offers.add_to_offers.Given as goal

-- each offer so far has the participant too
abbrev pub invariant-loop-index : goal.invariant-loop-index
invariant-loop-index l = (ds : List OfferDemand) (d : OfferDemand) → d.entries ≡ l.entries → AreKept (offers l.platform.pairs l.platform.colours) ds l.initial.kept
    → AreKeptUpTo l.index (offers l.platform.pairs l.platform.colours) ds d l.kept

use Rattle.std.proofs.Common.{◌≡◌, ℕ, ◌<◌, List, Some, slice_get}
use Rattle.sysmem_formats.specs.declared.offer.Offer.{Offer}
use Rattle.sysmem_merge.specs.Aggregate.{AreSizes, AreKept}
use Rattle.sysmem_merge.specs.Demands.{OfferDemand}
use Rattle.sysmem_merge.specs.Reasons.{IsOfferRefused}
use Rattle.negotiation_inputs.specs.Platform.{offers_of}
use Rattle.sysmem_merge.proofs.walk.first_fit.Given as goal

-- each offer so far is refused
abbrev pub invariant-loop-index : goal.invariant-loop-index
invariant-loop-index l = (ds : List OfferDemand) → AreKept (offers_of l.platform) ds l.kept → AreSizes ds l.least_size l.greatest_size
    → (k : ℕ) (o : Offer) → k < l.index → slice_get (offers_of l.platform) k ≡ Some o → IsOfferRefused l.whole o ds

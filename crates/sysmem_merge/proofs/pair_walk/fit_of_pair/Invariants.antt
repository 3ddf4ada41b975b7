use Rattle.std.proofs.Common.{◌≡◌, ◌<◌, ℕ, List, Some, map, slice_get}
use Rattle.sysmem_formats.specs.declared.offer.Offer.{Offer}
use Rattle.sysmem_formats.specs.declared.offer.Offer.TheVariants.{Image}
use Rattle.sysmem_merge.specs.Aggregate.{AreSizes}
use Rattle.sysmem_merge.specs.Demands.{OfferDemand}
use Rattle.sysmem_merge.specs.Pairs.{IsPairKept}
use Rattle.sysmem_merge.specs.Reasons.{IsOfferRefused}
use Rattle.sysmem_merge.proofs.pair_walk.fit_of_pair.Given as goal

-- the offer in each colour space so far is refused
abbrev pub invariant-loop-colour : goal.invariant-loop-colour
invariant-loop-colour l = (ds : List OfferDemand) → IsPairKept l.pair ds l.kept → AreSizes ds l.least_size l.greatest_size
    → (k : ℕ) (o : Offer) → k < l.colour-index → slice_get (map (Image l.pair) l.colours) k ≡ Some o → IsOfferRefused l.whole o ds

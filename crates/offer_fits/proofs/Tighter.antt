-- The bounds of a fit beside those that participants ask.
use Rattle.std.proofs.Common.{List, All}
use Rattle.std.proofs.lemmas.List.Elements.{All-weaker}
use Rattle.sysmem_image.specs.Bounds.{IsTighter}
use Rattle.offer_fits.specs.declared.fit.Fit.{Fit}
use Rattle.offer_fits.specs.Demands.{OfferDemand}
use Rattle.offer_fits.specs.Fit.{CoversFit}
use Rattle.offer_fits.specs.Offers.{Asks, bounds_asked}
use Rattle.offer_fits.proofs.Asked.{asked_all}

-- the bounds of a fit keep to all that the participants whom it covers ask
pub tighter_asked : (t : Fit) (ds : List OfferDemand) → All (CoversFit t) ds → All (IsTighter t.bounds) (bounds_asked t.offer ds)
tighter_asked t ds covers =
    asked_all t.offer (IsTighter t.bounds) ds (All-weaker (CoversFit t) (Asks t.offer (IsTighter t.bounds)) (λ d c. c.offer.bounds) ds covers)

-- The first offer of a list that suits participants.
use Rattle.std.specs.Prelude.{◌≡◌, List, Bool, true, Contains}
use Rattle.sysmem_formats.specs.declared.offer.Offer.{Offer}
use Rattle.offer_fits.specs.declared.fit.Fit.{Fit}
use Rattle.sysmem_merge.specs.Best.{IsEarlierOffer}
use Rattle.sysmem_merge.specs.Demands.{OfferDemand}
use Rattle.sysmem_merge.specs.Fit.{IsBestFit}
use Rattle.sysmem_merge.specs.Offers.{is_named}
use Rattle.sysmem_merge.specs.Reasons.{IsOfferRefused}

-- the first offer of a list that suits these participants, with its least size and
-- bounds; each before it is refused
pub record IsFirstFit (whole : Bool) (os : List Offer) (ds : List OfferDemand)
    (s : Fit) : Type 0 where
  pub offered : Contains os s.offer
  pub best : IsBestFit s.offer ds s
  pub named : whole ≡ true → is_named s.offer ds ≡ true
  pub first : (o : Offer) → IsEarlierOffer os o s.offer → IsOfferRefused whole o ds

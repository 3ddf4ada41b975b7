-- The first image of lists that are those of a platform.
use Rattle.std.proofs.Common.{◌≡◌, List, Option, subst}
use Rattle.sysmem_formats.specs.declared.colour_space.ColourSpace.{ColourSpace}
use Rattle.sysmem_formats.specs.declared.offer.Offer.{Offer}
use Rattle.sysmem_formats.specs.declared.offer.Pair.{Pair}
use Rattle.flat_negotiation.specs.Own.{IsFirstImage}

pub image-in : (pairs own : List Pair) (colours its : List ColourSpace) (P : Pair → ColourSpace → Type 0) (o : Option Offer) → own ≡ pairs → its ≡ colours → IsFirstImage own its P o → IsFirstImage pairs colours P o
image-in pairs own colours its P o pairs_are colours_are first =
    subst (λ cs. IsFirstImage pairs cs P o) colours_are (subst (λ ps. IsFirstImage ps its P o) pairs_are first)

-- The offers of a platform, in order.
use Rattle.std.specs.Prelude.{List, ◌∷◌, map}
use Rattle.std.specs.List.{flat_map}
use Rattle.sysmem_formats.specs.declared.colour_space.ColourSpace.{ColourSpace}
use Rattle.sysmem_formats.specs.declared.offer.Pair.{Pair}
use Rattle.sysmem_formats.specs.declared.offer.Offer.{Offer}
use Rattle.sysmem_formats.specs.declared.offer.Offer.TheVariants.{NoImage, Image}

-- the offers with an image: each pair with each colour space, pairs before colour spaces
abbrev pub images : List Pair → List ColourSpace → List Offer
images pairs colours = flat_map (λ p. map (λ c. Image p c) colours) pairs

-- all offers in order: no image, then those with an image
abbrev pub offers : List Pair → List ColourSpace → List Offer
offers pairs colours = NoImage ∷ images pairs colours

-- How near participants come to taking an image.
use Rattle.std.specs.Prelude.{List}
use Rattle.sysmem_formats.specs.declared.colour_space.ColourSpace.{ColourSpace}
use Rattle.sysmem_formats.specs.declared.offer.Pair.{Pair}
use Rattle.negotiation_inputs.specs.Participant.{Participant}
use Rattle.flat_negotiation.specs.Own.{TakeImage, TakeItsFormat, TakePair}
use Rattle.flat_negotiation.specs.declared.taking.Nearness.{Nearness}
use Rattle.flat_negotiation.specs.declared.taking.Nearness.TheVariants as near

-- they come so near to an image
abbrev pub Take : Nearness → List Participant → Pair → ColourSpace → Type 0
Take near.Whole = λ ps pair colour. TakeImage ps pair colour
Take near.InPair = λ ps pair colour. TakePair ps pair colour
Take near.InFormat = λ ps pair colour. TakeItsFormat ps pair colour

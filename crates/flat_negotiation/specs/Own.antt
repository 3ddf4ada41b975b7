-- The image of a platform that participants come nearest to taking, but for their bounds.
use Rattle.std.specs.Prelude.{◌≡◌, ◌<◌, ℕ, true, List, length, Option, Some, None, slice_get}
use Rattle.sysmem_counts.specs.declared.field.Field.TheVariants.{PixelFormat, ColorSpaces}
use Rattle.sysmem_formats.specs.declared.colour_space.ColourSpace.{ColourSpace}
use Rattle.sysmem_formats.specs.declared.offer.Offer.{Offer}
use Rattle.sysmem_formats.specs.declared.offer.Offer.TheVariants as offer
use Rattle.sysmem_formats.specs.declared.offer.Pair.{Pair}
use Rattle.offer_fits.specs.Demands.{offer_demands}
use Rattle.offer_fits.specs.OfferLines.{IsOfferLine}
use Rattle.negotiation_inputs.specs.Participant.{Participant}
use Rattle.negotiation_inputs.specs.Platform.{PlatformFacts}
use Rattle.flat_negotiation.specs.Takes.{take_format}

-- each has an entry for the image, or none at all
abbrev pub TakePair : List Participant → Pair → ColourSpace → Type 0
TakePair ps pair colour = ¬ IsOfferLine PixelFormat (offer.Image pair colour) (offer_demands ps)

-- they take the image: such an entry takes its colour space, too
pub record TakeImage (ps : List Participant) (pair : Pair) (colour : ColourSpace) : Type 0 where
  pub pair_is : TakePair ps pair colour
  pub colours : ¬ IsOfferLine ColorSpaces (offer.Image pair colour) (offer_demands ps)

-- they take the image's format, in some modifier
abbrev pub TakeItsFormat : List Participant → Pair → ColourSpace → Type 0
TakeItsFormat ps pair colour = take_format (offer.Image pair colour) ps ≡ true

-- the list has the item at a place, it has the property, and none before it has
pub record IsFirstAt {X : Type 0} (P : X → Type 0) (xs : List X) (x : X) : Type 0 where
  pub index : ℕ
  pub here : slice_get xs index ≡ Some x
  pub holds : P x
  pub before : (k : ℕ) (other : X) → k < index → slice_get xs k ≡ Some other → ¬ P other

-- no item of the list has the property
pub record HoldsNowhere {X : Type 0} (P : X → Type 0) (xs : List X) : Type 0 where
  pub none : (k : ℕ) (x : X) → k < length xs → slice_get xs k ≡ Some x → ¬ P x

-- the first of some colour spaces that has the property, or none
abbrev pub IsFirstColour : (ColourSpace → Type 0) → List ColourSpace → Option ColourSpace → Type 0
IsFirstColour P colours None = HoldsNowhere P colours
IsFirstColour P colours (Some colour) = IsFirstAt P colours colour

-- a pair has the property in some of the colour spaces
abbrev pub InSome : (Pair → ColourSpace → Type 0) → List ColourSpace → Pair → Type 0
InSome P colours pair = (colour : ColourSpace) × IsFirstAt (P pair) colours colour

-- the first image of some pairs in some colour spaces that has the property, pair by pair, or none
abbrev pub IsFirstImage : List Pair → List ColourSpace → (Pair → ColourSpace → Type 0)
    → Option Offer → Type 0
IsFirstImage pairs colours P None = HoldsNowhere (InSome P colours) pairs
IsFirstImage pairs colours P (Some offer.NoImage) = ⊥
IsFirstImage pairs colours P (Some (offer.Image pair colour)) =
    IsFirstAt (InSome P colours) pairs pair × IsFirstAt (P pair) colours colour

-- the first if there is one, and else the second
abbrev pub or_else : Option Offer → Option Offer → Option Offer
or_else (Some o) other = Some o
or_else None other = other

-- the image that they come nearest to: the first that they take, or else the first whose pair they
-- take, or else the first whose format they take; or none
pub record IsOwnOffer (platform : PlatformFacts) (ps : List Participant)
    (own : Option Offer) : Type 0 where
  pub whole : Option Offer
  pub whole_is : IsFirstImage platform.pairs platform.colours
      (λ pair colour. TakeImage ps pair colour) whole
  pub pair : Option Offer
  pub pair_is : IsFirstImage platform.pairs platform.colours
      (λ pair colour. TakePair ps pair colour) pair
  pub format : Option Offer
  pub format_is : IsFirstImage platform.pairs platform.colours
      (λ pair colour. TakeItsFormat ps pair colour) format
  pub nearest : own ≡ or_else whole (or_else pair format)

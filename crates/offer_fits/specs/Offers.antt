-- What a participant says of an offer.
use Rattle.std.specs.Prelude.{◌≡◌, ◌||◌, ◌&&◌, ◌==◌, List, Bool, true, false, Option, Some, None}
use Rattle.std.specs.Prelude.{IfSome, length, is_some}
use Rattle.std.specs.List.{filter_map, list_any}
use Rattle.std.specs.Option.{option_map, option_map_or}
use Rattle.sysmem_formats.specs.declared.offer.Offer.{Offer}
use Rattle.sysmem_formats.specs.declared.offer.Offer.TheVariants.{NoImage, Image}
use Rattle.sysmem_image.specs.declared.bounds.ImageBounds.{ImageBounds}
use Rattle.sysmem_image.specs.declared.entry.Entry.{Entry}
use Rattle.sysmem_image.specs.Bounds.{IsTighter}
use Rattle.sysmem_image.specs.Colours.{lists}
use Rattle.sysmem_image.specs.Entries.{effective, first_match, takes_colour}
use Rattle.offer_fits.specs.Demands.{OfferDemand}

-- a participant with entries takes only the offers for which it has one; without entries it takes
-- every offer
abbrev pub has_format : Offer → OfferDemand → Bool
has_format o d = length d.entries == 0 || is_some (first_match o d.entries)

-- a participant's entry for the offer, if it has one, takes the offer's colour space
abbrev pub has_colour : Offer → OfferDemand → Bool
has_colour o d = option_map_or (takes_colour o) (first_match o d.entries) true

-- the bounds that a participant's entry for the offer, if it has one, puts on its images
abbrev pub entry_bounds : Offer → OfferDemand → Option ImageBounds
entry_bounds o d = option_map (effective o) (first_match o d.entries)

-- the bounds that a participant's entry puts on the offer have the property; a participant without
-- an entry puts none
abbrev pub Asks : Offer → (ImageBounds → Type 0) → OfferDemand → Type 0
Asks o P d = IfSome (entry_bounds o d) P

-- a participant takes the offer, its colour space and these bounds
pub record AcceptsOffer (o : Offer) (b : ImageBounds) (d : OfferDemand) : Type 0 where
  pub format : has_format o d ≡ true
  pub colour : has_colour o d ≡ true
  pub bounds : Asks o (IsTighter b) d

-- a participant takes the offer and its colour space
pub record IsListed (o : Offer) (d : OfferDemand) : Type 0 where
  pub format : has_format o d ≡ true
  pub colour : has_colour o d ≡ true

-- the bounds that the participants' entries put on the offer
abbrev pub bounds_asked : Offer → List OfferDemand → List ImageBounds
bounds_asked o ds = filter_map (entry_bounds o) ds

-- an entry names the format itself, not by DO_NOT_CARE
abbrev pub names_format : Option Entry → Bool
names_format (Some entry) = is_some entry.format
names_format None = false

-- an entry names the modifier itself, not by DO_NOT_CARE
abbrev pub names_modifier : Option Entry → Bool
names_modifier (Some entry) = is_some entry.modifier
names_modifier None = false

-- an entry names the offer's colour space itself, not by DO_NOT_CARE
abbrev pub names_colour : Offer → Option Entry → Bool
names_colour (Image pair colour) (Some entry) = lists entry.colours colour
names_colour _ _ = false

-- some participant's entry for the offer names its format
abbrev pub is_format_named : Offer → List OfferDemand → Bool
is_format_named o ds = list_any (λ d. names_format (first_match o d.entries)) ds

-- some participant's entry for the offer names its modifier
abbrev pub is_modifier_named : Offer → List OfferDemand → Bool
is_modifier_named o ds = list_any (λ d. names_modifier (first_match o d.entries)) ds

-- some participant's entry for the offer names its colour space
abbrev pub is_colour_named : Offer → List OfferDemand → Bool
is_colour_named o ds = list_any (λ d. names_colour o (first_match o d.entries)) ds

-- no image needs no name; of an image each of the three is named by some participant
abbrev pub is_named : Offer → List OfferDemand → Bool
is_named NoImage ds = true
is_named o ds = is_format_named o ds && is_modifier_named o ds && is_colour_named o ds

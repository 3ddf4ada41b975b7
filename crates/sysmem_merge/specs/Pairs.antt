-- What is kept of the offers of a pair, of which there is one for each colour space.
use Rattle.std.specs.Prelude.{◌≡◌, ◌<◌, ◌≤◌, ◌==◌, ◌++◌, ◌∷◌, [], ℕ, List, length, Bool, true}
use Rattle.std.specs.Prelude.{false, Some, slice_get}
use Rattle.std.specs.Int.{bit_at}
use Rattle.sysmem_counts.specs.declared.field.Field.TheVariants.{ColorSpaces}
use Rattle.sysmem_formats.specs.declared.colour_space.ColourSpace.{ColourSpace}
use Rattle.sysmem_formats.specs.declared.colour_space.ColourSpace.TheVariants.{Srgb, Rec601Ntsc}
use Rattle.sysmem_formats.specs.declared.colour_space.ColourSpace.TheVariants.{Rec601NtscFullRange}
use Rattle.sysmem_formats.specs.declared.colour_space.ColourSpace.TheVariants.{Rec601Pal}
use Rattle.sysmem_formats.specs.declared.colour_space.ColourSpace.TheVariants.{Rec601PalFullRange}
use Rattle.sysmem_formats.specs.declared.colour_space.ColourSpace.TheVariants.{Rec709, Rec2020}
use Rattle.sysmem_formats.specs.declared.colour_space.ColourSpace.TheVariants.{Rec2100}
use Rattle.sysmem_formats.specs.declared.offer.Offer.{Offer}
use Rattle.sysmem_formats.specs.declared.offer.Offer.TheVariants.{Image}
use Rattle.sysmem_formats.specs.declared.offer.Pair.{Pair}
use Rattle.sysmem_image.specs.Bounds.{IsOwn}
use Rattle.sysmem_image.specs.declared.bounds.ImageBounds.{ImageBounds}
use Rattle.sysmem_image.specs.declared.entry.Entry.{Entry}
use Rattle.sysmem_image.specs.Entries.{effective}
use Rattle.sysmem_image.specs.Lines.{IsFirstLine, IsSteady}
use Rattle.sysmem_image.specs.Merged.{MergedOf}
use Rattle.sysmem_merge.specs.Aggregate.{IsKept}
use Rattle.sysmem_merge.specs.declared.colours.Colours.{Colours}
use Rattle.sysmem_merge.specs.declared.kept.KeptBounds.{KeptBounds}
use Rattle.sysmem_merge.specs.declared.kept.KeptBounds.TheVariants.{Merged, Refused}
use Rattle.sysmem_merge.specs.declared.kept.KeptOffer.{KeptOffer}
use Rattle.sysmem_merge.specs.declared.pair.KeptPair.{KeptPair}
use Rattle.sysmem_merge.specs.Demands.{OfferDemand}

-- the colour space's bit in a set of them
abbrev pub colour_bit : ColourSpace → ℕ
colour_bit Srgb = 0
colour_bit Rec601Ntsc = 1
colour_bit Rec601NtscFullRange = 2
colour_bit Rec601Pal = 3
colour_bit Rec601PalFullRange = 4
colour_bit Rec709 = 5
colour_bit Rec2020 = 6
colour_bit Rec2100 = 7

-- whether the colour space is in the set
abbrev pub has : Colours → ColourSpace → Bool
has colours c = bit_at colours.bits (colour_bit c) == 1

-- whether somebody names a pair's format, and its modifier
abbrev pub says_format : Colours → Bool
says_format colours = bit_at colours.bits 8 == 1

abbrev pub says_modifier : Colours → Bool
says_modifier colours = bit_at colours.bits 9 == 1

-- bounds in a colour space: an offer whose colour space somebody doesn't take is refused
abbrev pub bounds_where : Bool → KeptBounds → KeptBounds
bounds_where true bounds = bounds
bounds_where false bounds = Refused ColorSpaces

-- what is kept of the pair's offer in a colour space
abbrev pub in_colour : KeptPair → ColourSpace → KeptOffer
in_colour kept c = record {
  bounds = bounds_where (has kept.taken c) kept.bounds;
  format_named = says_format kept.named;
  modifier_named = says_modifier kept.named;
  colour_named = has kept.named c;
}

-- bounds that were merged with those of an entry, or the line of a common multiple that there isn't
abbrev pub IsMergedWith : Offer → Entry → ImageBounds → KeptBounds → Type 0
IsMergedWith o entry b (Merged new) = (es : List ImageBounds) → MergedOf o es b
    → MergedOf o (es ++ effective o entry ∷ []) new
IsMergedWith o entry b (Refused field) =
    IsSteady field
    × ((es : List ImageBounds) → MergedOf o es b
    → IsFirstLine field o (es ++ effective o entry ∷ []))

-- the bounds are the pair's own in each colour space
pub record ArePlain (pair : Pair) (kept : KeptBounds) : Type 0 where
  pub bounds : ImageBounds
  pub merged : kept ≡ Merged bounds
  pub own : (c : ColourSpace) → IsOwn (Image pair c) bounds

-- what is kept of a pair stands for these participants, in each colour space
pub record IsPairKept (pair : Pair) (ds : List OfferDemand) (kept : KeptPair) : Type 0 where
  pub each : (c : ColourSpace) → IsKept (Image pair c) ds (in_colour kept c)
  pub plain : kept.is_plain ≡ true → ArePlain pair kept.bounds

-- what is kept of each pair of a list, in its order
pub record ArePairsKept (pairs : List Pair) (ds : List OfferDemand)
    (kept : List KeptPair) : Type 0 where
  pub many : length kept ≡ length pairs
  pub each : (k : ℕ) (pair : Pair) (one : KeptPair) → slice_get pairs k ≡ Some pair
      → slice_get kept k ≡ Some one → IsPairKept pair ds one

-- what is kept of the pairs between two places stands for these participants, and of each other one
-- for some
pub record ArePairsJoined (from to : ℕ) (pairs : List Pair) (ds : List OfferDemand)
    (kept : List KeptPair) : Type 0 where
  pub many : length kept ≡ length pairs
  pub within : to ≤ length pairs
  pub these : (k : ℕ) (pair : Pair) (one : KeptPair) → from ≤ k → k < to
      → slice_get pairs k ≡ Some pair → slice_get kept k ≡ Some one → IsPairKept pair ds one
  pub each : (k : ℕ) (pair : Pair) (one : KeptPair) → slice_get pairs k ≡ Some pair
      → slice_get kept k ≡ Some one → (others : List OfferDemand) × IsPairKept pair others one

-- What is the same of a pair in each colour space: all but the colour space itself.
use Rattle.std.proofs.Common.{ℕ, ◌≡◌, false, inl, inr, List, All, refl, sym, ◌∙◌, subst}
use Rattle.list_lemmas.proofs.CallerLemmas.{Any-not_All}
use Rattle.sysmem_counts.specs.declared.field.Field.{Field}
use Rattle.sysmem_counts.specs.declared.field.Field.TheVariants as field
use Rattle.sysmem_formats.specs.declared.colour_space.ColourSpace.{ColourSpace}
use Rattle.sysmem_formats.specs.declared.offer.Offer.TheVariants.{Image}
use Rattle.sysmem_formats.specs.declared.offer.Pair.{Pair}
use Rattle.sysmem_image.specs.Bounds.{IsOwn}
use Rattle.sysmem_image.specs.declared.bounds.ImageBounds.{ImageBounds}
use Rattle.sysmem_image.specs.declared.entry.Entry.{Entry}
use Rattle.sysmem_image.specs.Entries.{first_match}
use Rattle.sysmem_image.specs.Fields.{Bound, Side, Width, Height, MinSize, MaxSize, SizeAlignment, MinBytesPerRow, MaxBytesPerRow, BytesPerRowDivisor, StartOffsetDivisor, DisplayRectAlignment, RequiredMinSize, RequiredMaxSize, MaxWidthTimesHeight, Keeps, rule_of, value, own_value}
use Rattle.sysmem_image.specs.Lines.{HasCommon, MeetsIn, FitsWidth, FitsHeight, FitsRow, IsBoundsLine, IsSteady}
use Rattle.sysmem_image.specs.Merged.{IsMergeOf, MergedOf}
use Rattle.sysmem_merge.specs.Aggregate.{IsListed}
use Rattle.sysmem_merge.specs.Demands.{OfferDemand}
use Rattle.sysmem_merge.specs.Offers.{has_colour, bounds_asked}
use Rattle.sysmem_merge.specs.Reasons.{IsOfferLine}

module _ (pair : Pair) (c c' : ColourSpace) where
  -- the pair's own values
  pub own_any : (f : Bound) (side : Side) → own_value (Image pair c) f side ≡ own_value (Image pair c') f side
  own_any MinSize side = refl
  own_any MaxSize side = refl
  own_any SizeAlignment Width = refl
  own_any SizeAlignment Height = refl
  own_any MinBytesPerRow side = refl
  own_any MaxBytesPerRow side = refl
  own_any BytesPerRowDivisor side = refl
  own_any StartOffsetDivisor side = refl
  own_any DisplayRectAlignment side = refl
  own_any RequiredMinSize side = refl
  own_any RequiredMaxSize side = refl
  own_any MaxWidthTimesHeight side = refl

  -- whether bounds are its own
  pub is_own_any : (b : ImageBounds) → IsOwn (Image pair c) b → IsOwn (Image pair c') b
  is_own_any b own f side = own f side ∙ own_any f side

  -- what bounds are merged of
  pub merged_any : (es : List ImageBounds) (b : ImageBounds) → MergedOf (Image pair c) es b → MergedOf (Image pair c') es b
  merged_any es b m = record {
    in_range = m.in_range;
    each = λ f side. subst (λ own. IsMergeOf (Keeps (rule_of f)) own (value f side) es (value f side b)) (own_any f side) (m.each f side);
  }

  -- whether there are common multiples
  meets_any : (f : Bound) (es : List ImageBounds) → MeetsIn f (Image pair c') es → MeetsIn f (Image pair c) es
  meets_any f es meet side = subst (λ own. HasCommon own (value f side) es) (sym (own_any f side)) (meet side)

  pub steady_any : (f : Field) → IsSteady f → (es : List ImageBounds) → IsBoundsLine f (Image pair c) es → IsBoundsLine f (Image pair c') es
  steady_any field.SizeAlignment steady es line = λ meet. line (meets_any SizeAlignment es meet)
  steady_any field.BytesPerRowDivisor steady es line = λ meet. line (meets_any BytesPerRowDivisor es meet)
  steady_any field.StartOffsetDivisor steady es line = λ meet. line (meets_any StartOffsetDivisor es meet)
  steady_any field.DisplayRectAlignment steady es line = λ meet. line (meets_any DisplayRectAlignment es meet)
  steady_any _ steady es line = absurd steady

  -- which entry is the first for the pair
  pub first_any : (es : List Entry) → first_match (Image pair c) es ≡ first_match (Image pair c') es
  first_any es = refl

  -- which sides and rows fit
  width_any : (es : List ImageBounds) (w : ℕ) → FitsWidth (Image pair c) es w → FitsWidth (Image pair c') es w
  width_any es w fits = record { some = fits.some; own = fits.own; alignments = fits.alignments; least = fits.least; required = fits.required }

  height_any : (es : List ImageBounds) (h : ℕ) → FitsHeight (Image pair c) es h → FitsHeight (Image pair c') es h
  height_any es h fits = record { some = fits.some; own = fits.own; alignments = fits.alignments; least = fits.least; required = fits.required }

  row_any : (es : List ImageBounds) (w r : ℕ) → FitsRow (Image pair c) es w r → FitsRow (Image pair c') es w r
  row_any es w r fits = record { some = fits.some; own = fits.own; divisors = fits.divisors; least = fits.least; row_bytes = fits.row_bytes }

-- a line of participants who all take the pair's offer in one colour space is true in each
pub line_any : (pair : Pair) (c c' : ColourSpace) (f : Field) (ds : List OfferDemand) → All (IsListed (Image pair c)) ds → IsOfferLine f (Image pair c) ds → IsOfferLine f (Image pair c') ds
line_any pair c c' field.PixelFormat ds listed line = line
line_any pair c c' field.ColorSpaces ds listed line =
    absurd (Any-not_All (λ d. has_colour (Image pair c) d ≡ false) (IsListed (Image pair c)) ds (λ d no one. cc (no, one.colour)) line listed)
line_any pair c c' field.MaxSizeBytes ds listed line =
    let es = bounds_asked (Image pair c) ds in (
      meets_any pair c' c SizeAlignment es line.0,
      meets_any pair c' c BytesPerRowDivisor es line.1,
      λ w h r n fits_w fits_h fits_r. line.2 w h r n (width_any pair c' c es w fits_w) (height_any pair c' c es h fits_h) (row_any pair c' c es w r fits_r),
    )
line_any pair c c' field.SizeAlignment ds listed line = steady_any pair c c' field.SizeAlignment tt (bounds_asked (Image pair c) ds) line
line_any pair c c' field.BytesPerRowDivisor ds listed line = steady_any pair c c' field.BytesPerRowDivisor tt (bounds_asked (Image pair c) ds) line
line_any pair c c' field.StartOffsetDivisor ds listed line = steady_any pair c c' field.StartOffsetDivisor tt (bounds_asked (Image pair c) ds) line
line_any pair c c' field.DisplayRectAlignment ds listed line = steady_any pair c c' field.DisplayRectAlignment tt (bounds_asked (Image pair c) ds) line
line_any pair c c' field.RequiredMinSize ds listed line = line
line_any pair c c' field.MaxSize ds listed line =
    let es = bounds_asked (Image pair c) ds in (
      meets_any pair c' c SizeAlignment es line.0,
      elim line.1 [
        | inl wide ↦ inl (λ w small fits. wide w small (width_any pair c' c es w fits))
        | inr high ↦ inr (λ h small fits. high h small (height_any pair c' c es h fits))
      ],
    )
line_any pair c c' field.MaxWidthTimesHeight ds listed line =
    let es = bounds_asked (Image pair c) ds in (
      meets_any pair c' c SizeAlignment es line.0,
      λ w h small fits_w fits_h. line.1 w h small (width_any pair c' c es w fits_w) (height_any pair c' c es h fits_h),
    )
line_any pair c c' field.MaxBytesPerRow ds listed line =
    let es = bounds_asked (Image pair c) ds in (
      meets_any pair c' c SizeAlignment es line.0,
      meets_any pair c' c BytesPerRowDivisor es line.1,
      λ w r small fits_w fits_r. line.2 w r small (width_any pair c' c es w fits_w) (row_any pair c' c es w r fits_r),
    )
line_any pair c c' _ ds listed line = absurd line

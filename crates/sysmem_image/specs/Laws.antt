-- What is true of bounds, whoever works them out.
use Rattle.std.specs.Prelude.{ℕ, ◌≤◌, ◌↔◌, ◌≡◌, true, List, [], ◌∷◌, ◌++◌, All}
use Rattle.std.specs.Int.{◌∣◌}
use Rattle.sysmem_counts.specs.declared.field.Field.{Field}
use Rattle.sysmem_formats.specs.declared.offer.Offer.{Offer}
use Rattle.sysmem_formats.specs.Layout.{image_bytes_of, bytes_per_pixel_of}
use Rattle.sysmem_image.specs.declared.bounds.ImageBounds.{ImageBounds}
use Rattle.sysmem_image.specs.declared.size.Corner.{Corner}
use Rattle.sysmem_image.specs.declared.entry.Entry.{Entry}
use Rattle.sysmem_image.specs.Size.{IsSizeUpTo}
use Rattle.sysmem_image.specs.Fields.{Bound, Side, value}
use Rattle.sysmem_image.specs.Bounds.{IsTighter, IsInRange, Suits, IsOwn}
use Rattle.sysmem_image.specs.Images.{Image, Admits, IsLargeEnough, IsSoundBounds}
use Rattle.sysmem_image.specs.Merged.{MergedOf}
use Rattle.sysmem_image.specs.Corners.{IsWidth, IsHeight, IsRow, IsCorner, RefusesCorner}
use Rattle.sysmem_image.specs.Lines.{FitsWidth, FitsHeight, FitsRow, AlignmentsMeet, DivisorsMeet}
use Rattle.sysmem_image.specs.Lines.{IsBoundsLine, IsSteady, KeepsCorner, KeepsLine}
use Rattle.sysmem_image.specs.Entries.{effective, effective_all}

-- merged bounds admit an image exactly where the offer's own bounds and each merged entry admit it
abbrev pub MergeIsIntersection : Type 0
MergeIsIntersection = (o : Offer) (own b : ImageBounds) (es : List Entry) → IsOwn o own
    → MergedOf o (effective_all o es) b → (i : Image)
    → Admits o b i ↔ (Admits o own i × All (λ e. Admits o (effective o e) i) es)

-- what keeps to the bounds that an entry puts on an offer keeps to its own, with whole
-- pixels in a row where it asks for them
abbrev pub EffectiveKeeps : Type 0
EffectiveKeeps = (o : Offer) (e : Entry) (s : ImageBounds) → IsTighter s (effective o e)
    ↔ (IsTighter s e.bounds.asked
    × (e.bounds.at_pixel_boundary ≡ true → bytes_per_pixel_of o ∣ s.bytes_per_row_divisor))

-- they admit the images of its own bounds, with whole pixels in a row where it asks for them
abbrev pub EffectiveAdmits : Type 0
EffectiveAdmits = (o : Offer) (e : Entry) (i : Image) → Admits o (effective o e) i
    ↔ (Admits o e.bounds.asked i
    × (e.bounds.at_pixel_boundary ≡ true → bytes_per_pixel_of o ∣ i.row))

-- bounds that suit the offer keep to merged bounds exactly where they keep to each of the list
abbrev pub MergedIsExact : Type 0
MergedIsExact = (o : Offer) (es : List ImageBounds) (b : ImageBounds) → MergedOf o es b
    → (s : ImageBounds) → IsInRange s → Suits o s → IsTighter s b ↔ All (λ e. IsTighter s e) es

-- merged bounds suit the offer
abbrev pub MergedSuits : Type 0
MergedSuits = (o : Offer) (es : List ImageBounds) (b : ImageBounds) → MergedOf o es b → Suits o b

-- bounds keep to themselves
abbrev pub TighterIsReflexive : Type 0
TighterIsReflexive = (a : ImageBounds) → IsTighter a a

-- what keeps to bounds keeps to what these keep to
abbrev pub TighterIsTransitive : Type 0
TighterIsTransitive = (a b c : ImageBounds) → IsTighter a b → IsTighter b c → IsTighter a c

-- bounds that keep to each other have the same numbers
abbrev pub TighterBothWays : Type 0
TighterBothWays = (a b : ImageBounds) → IsTighter a b → IsTighter b a → (f : Bound) (side : Side)
    → value f side a ≡ value f side b

-- looser bounds admit each image that tighter ones admit, and it is as large as they ask for
abbrev pub LooserAdmits : Type 0
LooserAdmits = (o : Offer) (a b : ImageBounds) → IsTighter a b → (i : Image) → Admits o a i
    → IsLargeEnough a i → Admits o b i × IsLargeEnough b i

-- where the corner is refused, no image is as the bounds ask, or required_min_size fails
abbrev pub NoCorner : Type 0
NoCorner = (f : Field) (o : Offer) (b : ImageBounds) → RefusesCorner f o b → (i : Image)
    → Admits o b i → IsLargeEnough b i → IsSizeUpTo b.min_size b.required_min_size → ⊥

-- the corner is no wider, no higher, of no longer rows and of no more bytes than an image
pub record IsUpTo (o : Offer) (k : Corner) (i : Image) : Type 0 where
  pub width : k.width ≤ i.width
  pub height : k.height ≤ i.height
  pub row : k.bytes_per_row ≤ i.row
  pub bytes : k.bytes ≤ image_bytes_of o i.row i.height

-- the corner is least among the images that the bounds admit and
-- that are at least required_max_size
abbrev pub CornerIsLeast : Type 0
CornerIsLeast = (o : Offer) (b : ImageBounds) (k : Corner) → IsCorner o b k → (i : Image)
    → Admits o b i → IsLargeEnough b i → IsUpTo o k i

-- a line of bounds that is true leaves no sound bounds that keep to the list in the fields it reads
abbrev pub LinesHold : Type 0
LinesHold = (f : Field) (o : Offer) (es : List ImageBounds) → IsBoundsLine f o es
    → (s : ImageBounds) (i : Image) → IsSoundBounds o s i → All (λ e. KeepsLine f s e) es → ⊥

-- once true, a line about a common multiple stays true of each longer list
abbrev pub SteadyLines : Type 0
SteadyLines = (f : Field) → IsSteady f → (o : Offer) (es : List ImageBounds) (e : ImageBounds)
    → IsBoundsLine f o es → IsBoundsLine f o (es ++ e ∷ [])

-- an image's sides and row are as the bounds of a list ask
pub record FitsImage (o : Offer) (es : List ImageBounds) (i : Image) : Type 0 where
  pub width : FitsWidth o es i.width
  pub height : FitsHeight o es i.height
  pub row : FitsRow o es i.width i.row

-- the image of sound bounds is as a list asks, if they keep to it in
-- the fields that the corner reads
abbrev pub SoundFits : Type 0
SoundFits = (o : Offer) (es : List ImageBounds) (s : ImageBounds) (i : Image) → IsSoundBounds o s i
    → All (λ e. KeepsCorner s e) es → FitsImage o es i

-- the alignments, divisors and lower bounds of merged bounds are those of the
-- list, and its common multiples exist
pub record ReadsAs (o : Offer) (es : List ImageBounds) (b : ImageBounds) : Type 0 where
  pub width : (w : ℕ) → IsWidth b w ↔ FitsWidth o es w
  pub height : (h : ℕ) → IsHeight b h ↔ FitsHeight o es h
  pub row : (w r : ℕ) → IsRow o b w r ↔ FitsRow o es w r
  pub alignments : AlignmentsMeet o es
  pub divisors : DivisorsMeet o es

-- what a corner reads of merged bounds is what it reads of the list
abbrev pub MergedReads : Type 0
MergedReads = (o : Offer) (es : List ImageBounds) (b : ImageBounds) → MergedOf o es b
    → ReadsAs o es b

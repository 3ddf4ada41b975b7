-- What callers need of bounds, corners and lines: the laws as lemmas, and a few more.
pub use Rattle.sysmem_image.proofs.Values.{max_one, sides_same, with_values}
pub use Rattle.sysmem_image.proofs.Joined.{own_adds_nothing, steady_first, steady_second}
use Rattle.std.proofs.Common.{◌↔◌, ◌≤◌, ℕ, List, []}
use Rattle.sysmem_counts.specs.Bounds.{most_number}
use Rattle.sysmem_counts.specs.declared.field.Field.{Field}
use Rattle.sysmem_formats.specs.declared.offer.Offer.{Offer}
use Rattle.sysmem_image.specs.declared.bounds.ImageBounds.{ImageBounds}
use Rattle.sysmem_image.specs.Bounds.{IsTighter, KeepsField, IsInRange, IsOwn, IsFirstFailing}
use Rattle.sysmem_image.specs.Size.{IsSizeInRange}
use Rattle.sysmem_image.specs.Fields.{Bound, KeepsIn, KeepsEach, field_of}
use Rattle.sysmem_image.specs.Merged.{MergedOf}
use Rattle.sysmem_image.specs.Laws.{MergedIsExact, MergedSuits, TighterIsReflexive, TighterBothWays, LooserAdmits, LinesHold, SteadyLines, SoundFits, MergedReads}
use Rattle.sysmem_formats.specs.Layout.{image_bytes_of}
use Rattle.sysmem_image.proofs.Layouts as layouts
use Rattle.sysmem_image.proofs.Meets as meets
use Rattle.sysmem_image.proofs.Rows as rows
use Rattle.sysmem_image.proofs.Exact as exact
use Rattle.sysmem_image.proofs.Sound as sound
use Rattle.sysmem_image.proofs.Steps as steps
use Rattle.sysmem_image.proofs.Readings as readings

-- bounds whose numbers are within their types are in range
pub in_range_by : (b : ImageBounds) → IsSizeInRange b.min_size → IsSizeInRange b.max_size → IsSizeInRange b.size_alignment → b.min_bytes_per_row ≤ most_number → b.max_bytes_per_row ≤ most_number
    → b.bytes_per_row_divisor ≤ most_number → b.start_offset_divisor ≤ most_number → IsSizeInRange b.display_rect_alignment → IsSizeInRange b.required_min_size → IsSizeInRange b.required_max_size
    → b.max_width_times_height ≤ 18446744073709551615 → IsInRange b
in_range_by = meets.in_range_by

-- bounds keep to themselves
pub tighter_refl : TighterIsReflexive
tighter_refl = meets.tighter_refl

-- bounds that keep to each other have the same numbers
pub tighter_both : TighterBothWays
tighter_both = meets.tighter_both

-- bounds that keep to others keep to them in each field of a list
pub keeps_each : (fs : List Bound) (a b : ImageBounds) → IsTighter a b → KeepsEach fs a b
keeps_each = meets.keeps_each

-- bounds keep to others in the field of a name exactly where they do in that field
pub keeps_named : (f : Bound) (a b : ImageBounds) → KeepsIn f a b ↔ KeepsField (field_of f) a b
keeps_named = meets.keeps_named

-- bounds that fail in a field don't keep to the others
pub not_tighter : (f : Field) (a b : ImageBounds) → IsFirstFailing f a b → ¬ IsTighter a b
not_tighter f a b failing = λ t. failing.fails (t failing.bound)

-- bounds keep to merged bounds exactly where they keep to each of the list
pub merged_exact : MergedIsExact
merged_exact = exact.merged_exact

-- merged bounds suit the offer
pub merged_suits : MergedSuits
merged_suits = exact.merged_suits

-- bounds that stand for no others are the offer's own
pub merged_own : (o : Offer) (b : ImageBounds) → MergedOf o [] b → IsOwn o b
merged_own = rows.merged_own

-- looser bounds admit what tighter ones admit
pub looser_admits : LooserAdmits
looser_admits = exact.looser_admits

-- a true line leaves no sound bounds that keep to the fields that it reads
pub line_holds : LinesHold
line_holds = sound.line_holds

-- a line about a common multiple stays true of a longer list
pub steady_line : SteadyLines
steady_line = steps.steady_line

-- the image of sound bounds is as a list asks to whose fields they keep
pub fits_image : SoundFits
fits_image = sound.fits_image

-- what a corner reads of merged bounds is what it reads of the list
pub merged_reads : MergedReads
merged_reads = readings.merged_reads

-- an image of longer rows and more of them has no fewer bytes
pub image_bytes_mono : (o : Offer) (r q h g : ℕ) → r ≤ q → h ≤ g → image_bytes_of o r h ≤ image_bytes_of o q g
image_bytes_mono = layouts.image_bytes_mono

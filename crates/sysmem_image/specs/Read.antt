-- What is kept of the bounds of a list, from which each line of the conflict table is read exactly.
use Rattle.std.specs.Prelude.{ℕ, ◌≤◌, List, Option, Some, None, IfSome}
use Rattle.std.specs.Option.{option_map}
use Rattle.sysmem_formats.specs.declared.offer.Offer.{Offer}
use Rattle.sysmem_image.specs.declared.bounds.ImageBounds.{ImageBounds}
use Rattle.sysmem_image.specs.declared.read.BoundsRead.{BoundsRead}
use Rattle.sysmem_image.specs.declared.size.Size.{Size}
use Rattle.sysmem_image.specs.Fields as bound
use Rattle.sysmem_image.specs.Fields.{Bound, Side, Width, Height, Keeps, rule_of}
use Rattle.sysmem_image.specs.Fields.{most, value, own_value}
use Rattle.sysmem_image.specs.Lines.{MeetsIn, FitsWidth, FitsHeight, FitsRow}
use Rattle.sysmem_image.specs.Merged.{IsMergeOf}

-- a size in a dimension
abbrev pub size_in : Size → Side → ℕ
size_in s Width = s.width
size_in s Height = s.height

-- a number that is one in both dimensions
abbrev pub number_in : ℕ → Side → ℕ
number_in n _ = n

-- what is kept of a field, in each dimension; nothing where its
-- common multiples are above the limit
abbrev pub kept_of : Bound → BoundsRead → Option (Side → ℕ)
kept_of bound.MinSize k = Some (size_in k.min_size)
kept_of bound.MaxSize k = Some (size_in k.max_size)
kept_of bound.SizeAlignment k = option_map size_in k.size_alignment
kept_of bound.MinBytesPerRow k = Some (number_in k.min_bytes_per_row)
kept_of bound.MaxBytesPerRow k = Some (number_in k.max_bytes_per_row)
kept_of bound.BytesPerRowDivisor k = option_map number_in k.bytes_per_row_divisor
kept_of bound.StartOffsetDivisor k = option_map number_in k.start_offset_divisor
kept_of bound.DisplayRectAlignment k = option_map size_in k.display_rect_alignment
kept_of bound.RequiredMinSize k = Some (size_in k.required_min_size)
kept_of bound.RequiredMaxSize k = Some (size_in k.required_max_size)
kept_of bound.MaxWidthTimesHeight k = Some (number_in k.max_width_times_height)

-- the numbers stand for the offer's own of a field and those of a list; without any, there are no
-- common multiples up to the limit
abbrev pub IsRead : Bound → Offer → List ImageBounds → Option (Side → ℕ) → Type 0
IsRead f o es (Some m) = (side : Side)
    → IsMergeOf (Keeps (rule_of f)) (own_value o f side) (value f side) es (m side)
IsRead f o es None = ¬ MeetsIn f o es

-- what is kept stands for the offer's own bounds and those of a list, field by field
pub record AreRead (o : Offer) (es : List ImageBounds) (k : BoundsRead) : Type 0 where
  pub in_range : (f : Bound) → IfSome (kept_of f k) (λ m. (side : Side) → m side ≤ most f)
  pub each : (f : Bound) → IsRead f o es (kept_of f k)

-- the least width and the least height that fit a list, of any number of bits
pub record FitLeast (o : Offer) (es : List ImageBounds) (w h : ℕ) : Type 0 where
  pub width : FitsWidth o es w
  pub height : FitsHeight o es h
  pub least_width : (n : ℕ) → FitsWidth o es n → w ≤ n
  pub least_height : (n : ℕ) → FitsHeight o es n → h ≤ n

-- the least row that fits a list: a row of the least width
pub record FitsLeastRow (o : Offer) (es : List ImageBounds) (w r : ℕ) : Type 0 where
  pub row : FitsRow o es w r
  pub least : (v n : ℕ) → FitsWidth o es v → FitsRow o es v n → r ≤ n

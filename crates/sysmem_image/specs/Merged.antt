-- What merged bounds stand for.
use Rattle.std.specs.Prelude.{◌≡◌, ℕ, ◌↔◌, max, min, List, All}
use Rattle.sysmem_counts.specs.declared.field.Field.{Field}
use Rattle.sysmem_counts.specs.declared.field.Field.TheVariants as field
use Rattle.sysmem_formats.specs.declared.offer.Offer.{Offer}
use Rattle.sysmem_image.specs.declared.bounds.ImageBounds.{ImageBounds}
use Rattle.sysmem_image.specs.Fields.{Bound, Side, Rule, Greatest, Least, Multiple, Keeps}
use Rattle.sysmem_image.specs.Fields.{rule_of, value, own_value}
use Rattle.sysmem_image.specs.Multiples.{IsLcm, IsAboveLimit, IsSizeAboveLimit}
use Rattle.sysmem_image.specs.Multiples.{HasMultiple, HasSizeMultiple}
use Rattle.sysmem_image.specs.Bounds.{IsInRange, IsTighter, Suits}

-- m stands for the own value and the numbers of a list: it keeps to the own value, and whatever
-- keeps to the own value keeps to m exactly where it keeps to each number of the list
pub record IsMergeOf {X : Type 0} (R : ℕ → ℕ → Type 0) (own : ℕ) (f : X → ℕ) (es : List X)
    (m : ℕ) : Type 0 where
  pub suits : R own m
  pub exactly : (n : ℕ) → R own n → R m n ↔ All (λ e. R (f e) n) es

-- the bounds b stand for the offer's own bounds and those of a list, number by number
pub record MergedOf (o : Offer) (es : List ImageBounds) (b : ImageBounds) : Type 0 where
  pub in_range : IsInRange b
  pub each : (f : Bound) (side : Side)
      → IsMergeOf (Keeps (rule_of f)) (own_value o f side) (value f side) es (value f side b)

-- no bounds of an offer keep to each of a list
abbrev pub NoneMerge : Offer → List ImageBounds → Type 0
NoneMerge o es = (s : ImageBounds) → IsInRange s → Suits o s → ¬ All (λ e. IsTighter s e) es

-- m is the greatest, the least or the least common multiple of a and b
abbrev pub IsMergedBy : Rule → ℕ → ℕ → ℕ → Type 0
IsMergedBy Greatest a b m = m ≡ max a b
IsMergedBy Least a b m = m ≡ min a b
IsMergedBy Multiple a b m = IsLcm a b m

-- m is merged of a and b, number by number
abbrev pub IsMerged : ImageBounds → ImageBounds → ImageBounds → Type 0
IsMerged a b m = (f : Bound) (side : Side)
    → IsMergedBy (rule_of f) (value f side a) (value f side b) (value f side m)

-- the common multiple of a's and b's field is above the limit, and those of earlier fields are not
abbrev pub IsFirstAbove : Field → ImageBounds → ImageBounds → Type 0
IsFirstAbove field.SizeAlignment a b = IsSizeAboveLimit a.size_alignment b.size_alignment
IsFirstAbove field.BytesPerRowDivisor a b =
    HasSizeMultiple a.size_alignment b.size_alignment
    × IsAboveLimit a.bytes_per_row_divisor b.bytes_per_row_divisor
IsFirstAbove field.StartOffsetDivisor a b = HasSizeMultiple a.size_alignment b.size_alignment
    × HasMultiple a.bytes_per_row_divisor b.bytes_per_row_divisor
    × IsAboveLimit a.start_offset_divisor b.start_offset_divisor
IsFirstAbove field.DisplayRectAlignment a b = HasSizeMultiple a.size_alignment b.size_alignment
    × HasMultiple a.bytes_per_row_divisor b.bytes_per_row_divisor
    × HasMultiple a.start_offset_divisor b.start_offset_divisor
    × IsSizeAboveLimit a.display_rect_alignment b.display_rect_alignment
IsFirstAbove _ a b = ⊥

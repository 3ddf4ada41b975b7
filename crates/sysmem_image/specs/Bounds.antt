-- Bounds on images: when they keep to others, and the bounds of no entry.
use Rattle.std.specs.Prelude.{◌≡◌, ◌≤◌}
use Rattle.std.specs.Int.{◌∣◌}
use Rattle.sysmem_counts.specs.declared.field.Field.{Field}
use Rattle.sysmem_formats.specs.declared.offer.Offer.{Offer}
use Rattle.sysmem_formats.specs.Layout.{width_alignment_of, height_alignment_of, row_divisor_of}
use Rattle.sysmem_image.specs.declared.bounds.ImageBounds.{ImageBounds}
use Rattle.sysmem_image.specs.Fields.{Bound, Side, field_of, value, most, own_value}
use Rattle.sysmem_image.specs.Fields.{fields_before, KeepsIn, KeepsEach}

-- the bounds a keep to the bounds b: merged to the greatest at least,
-- to the least at most, multiples of
abbrev pub IsTighter : ImageBounds → ImageBounds → Type 0
IsTighter a b = (f : Bound) → KeepsIn f a b

-- the bounds a keep to the bounds b in the field of this name, if it is one of bounds
abbrev pub KeepsField : Field → ImageBounds → ImageBounds → Type 0
KeepsField field a b = (f : Bound) → field ≡ field_of f → KeepsIn f a b

-- the field is the first in the table's order in which a doesn't keep to b
pub record IsFirstFailing (field : Field) (a b : ImageBounds) : Type 0 where
  pub bound : Bound
  pub named : field ≡ field_of bound
  pub fails : ¬ KeepsIn bound a b
  pub before : KeepsEach (fields_before bound) a b

-- each number is up to its field's greatest value
abbrev pub IsInRange : ImageBounds → Type 0
IsInRange b = (f : Bound) (side : Side) → value f side b ≤ most f

-- alignments and row divisor are multiples of the offer's own
pub record Suits (o : Offer) (b : ImageBounds) : Type 0 where
  pub width : width_alignment_of o ∣ b.size_alignment.width
  pub height : height_alignment_of o ∣ b.size_alignment.height
  pub row : row_divisor_of o ∣ b.bytes_per_row_divisor

-- the absent values, with the offer's own alignments and row divisor
abbrev pub IsOwn : Offer → ImageBounds → Type 0
IsOwn o b = (f : Bound) (side : Side) → value f side b ≡ own_value o f side

-- The merged bounds of a list, from what is kept of it.
use Rattle.std.proofs.Common.{◌≡◌, ℕ, ◌≤◌, List, Option, Some, None, IfSome, sym, refl, subst}
use Rattle.std.specs.Option.{option_map}
use Rattle.sysmem_formats.specs.declared.offer.Offer.{Offer}
use Rattle.sysmem_image.specs.declared.bounds.ImageBounds.{ImageBounds}
use Rattle.sysmem_image.specs.declared.read.BoundsRead.{BoundsRead}
use Rattle.sysmem_image.specs.declared.size.Size.{Size}
use Rattle.sysmem_image.specs.Fields.{Bound, MinSize, MaxSize, SizeAlignment, MinBytesPerRow, MaxBytesPerRow, BytesPerRowDivisor, StartOffsetDivisor, DisplayRectAlignment, RequiredMinSize, RequiredMaxSize, MaxWidthTimesHeight, Side, Width, Height, Keeps, rule_of, most, value, own_value}
use Rattle.sysmem_image.specs.Merged.{IsMergeOf, MergedOf}
use Rattle.sysmem_image.specs.Read.{size_in, number_in, kept_of, IsRead, AreRead}

-- what is kept of a field is the field of the bounds
abbrev IsFieldOf : Bound → ImageBounds → Option (Side → ℕ) → Type 0
IsFieldOf f b None = ⊥
IsFieldOf f b (Some m) = (side : Side) → m side ≡ value f side b

-- both dimensions of a size are those of a field
size_field : (f : Bound) (b : ImageBounds) (s : Size) → s.width ≡ value f Width b → s.height ≡ value f Height b → (side : Side) → size_in s side ≡ value f side b
size_field f b s w h Width = w
size_field f b s w h Height = h

-- an alignment that is kept is the field of the bounds
sizes_field : (f : Bound) (b : ImageBounds) (k : Option Size) (s : Size) → k ≡ Some s → s.width ≡ value f Width b → s.height ≡ value f Height b → IsFieldOf f b (option_map size_in k)
sizes_field f b k s is w h = subst (λ x. IsFieldOf f b (option_map size_in x)) (sym is) (size_field f b s w h)

-- a divisor that is kept is
number_field : (f : Bound) (b : ImageBounds) (k : Option ℕ) (n : ℕ) → k ≡ Some n → ((side : Side) → n ≡ value f side b) → IsFieldOf f b (option_map number_in k)
number_field f b k n is same = subst (λ x. IsFieldOf f b (option_map number_in x)) (sym is) same

within : (f : Bound) (side : Side) (b : ImageBounds) (k : Option (Side → ℕ)) → IsFieldOf f b k → IfSome k (λ m. (side : Side) → m side ≤ most f) → value f side b ≤ most f
within f side b None same small = absurd same
within f side b (Some m) same small = subst (λ n. n ≤ most f) (same side) (small side)

stands : (f : Bound) (side : Side) (o : Offer) (es : List ImageBounds) (b : ImageBounds) (k : Option (Side → ℕ)) → IsFieldOf f b k → IsRead f o es k
    → IsMergeOf (Keeps (rule_of f)) (own_value o f side) (value f side) es (value f side b)
stands f side o es b None same read = absurd same
stands f side o es b (Some m) same read = subst (IsMergeOf (Keeps (rule_of f)) (own_value o f side) (value f side) es) (same side) (read side)

-- bounds that have all that is kept are merged of the list
fields_merged : (o : Offer) (es : List ImageBounds) (k : BoundsRead) (b : ImageBounds) → ((f : Bound) → IsFieldOf f b (kept_of f k)) → AreRead o es k → MergedOf o es b
fields_merged o es k b same read = record {
  in_range = λ f side. within f side b (kept_of f k) (same f) (read.in_range f);
  each = λ f side. stands f side o es b (kept_of f k) (same f) (read.each f);
}

-- bounds have all that is kept, field by field
fields_of : (k : BoundsRead) (b : ImageBounds) → k.size_alignment ≡ Some b.size_alignment → k.bytes_per_row_divisor ≡ Some b.bytes_per_row_divisor
    → k.start_offset_divisor ≡ Some b.start_offset_divisor → k.display_rect_alignment ≡ Some b.display_rect_alignment
    → k.min_size ≡ b.min_size → k.max_size ≡ b.max_size → k.min_bytes_per_row ≡ b.min_bytes_per_row → k.max_bytes_per_row ≡ b.max_bytes_per_row
    → k.required_min_size ≡ b.required_min_size → k.required_max_size ≡ b.required_max_size → k.max_width_times_height ≡ b.max_width_times_height
    → (f : Bound) → IsFieldOf f b (kept_of f k)
fields_of k b alignment row start display least most short long low large area MinSize = sizes_field MinSize b (Some k.min_size) b.min_size (rw least refl) refl refl
fields_of k b alignment row start display least most short long low large area MaxSize = sizes_field MaxSize b (Some k.max_size) b.max_size (rw most refl) refl refl
fields_of k b alignment row start display least most short long low large area SizeAlignment = sizes_field SizeAlignment b k.size_alignment b.size_alignment alignment refl refl
fields_of k b alignment row start display least most short long low large area MinBytesPerRow = λ side. short
fields_of k b alignment row start display least most short long low large area MaxBytesPerRow = λ side. long
fields_of k b alignment row start display least most short long low large area BytesPerRowDivisor = number_field BytesPerRowDivisor b k.bytes_per_row_divisor b.bytes_per_row_divisor row (λ side. refl)
fields_of k b alignment row start display least most short long low large area StartOffsetDivisor = number_field StartOffsetDivisor b k.start_offset_divisor b.start_offset_divisor start (λ side. refl)
fields_of k b alignment row start display least most short long low large area DisplayRectAlignment = sizes_field DisplayRectAlignment b k.display_rect_alignment b.display_rect_alignment display refl refl
fields_of k b alignment row start display least most short long low large area RequiredMinSize = sizes_field RequiredMinSize b (Some k.required_min_size) b.required_min_size (rw low refl) refl refl
fields_of k b alignment row start display least most short long low large area RequiredMaxSize = sizes_field RequiredMaxSize b (Some k.required_max_size) b.required_max_size (rw large refl) refl refl
fields_of k b alignment row start display least most short long low large area MaxWidthTimesHeight = λ side. area

-- bounds with the steps that are kept, and all else that is kept, are merged of the list
pub merged_of : (k : BoundsRead) (b : ImageBounds) → k.size_alignment ≡ Some b.size_alignment → k.bytes_per_row_divisor ≡ Some b.bytes_per_row_divisor
    → k.start_offset_divisor ≡ Some b.start_offset_divisor → k.display_rect_alignment ≡ Some b.display_rect_alignment
    → k.min_size ≡ b.min_size → k.max_size ≡ b.max_size → k.min_bytes_per_row ≡ b.min_bytes_per_row → k.max_bytes_per_row ≡ b.max_bytes_per_row
    → k.required_min_size ≡ b.required_min_size → k.required_max_size ≡ b.required_max_size → k.max_width_times_height ≡ b.max_width_times_height
    → (o : Offer) (es : List ImageBounds) → AreRead o es k → MergedOf o es b
merged_of k b alignment row start display least most short long low large area o es read =
    fields_merged o es k b (fields_of k b alignment row start display least most short long low large area) read

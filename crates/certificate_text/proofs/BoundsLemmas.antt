-- Bounds are those of their values.
use Rattle.std.proofs.Common.{◌≡◌, ℕ, List, Option, Some, None, refl, ap, sym, ◌∙◌}
use Rattle.std.specs.Prelude.{option_map}
use Rattle.sysmem_formats.specs.declared.offer.Offer.TheVariants.{NoImage}
use Rattle.sysmem_image.specs.declared.bounds.ImageBounds.{ImageBounds}
use Rattle.sysmem_image.specs.declared.size.Size.{Size}
use Rattle.sysmem_image.specs.Bounds.{IsOwn}
use Rattle.sysmem_image.specs.Fields.{Bound, MinSize, MaxSize, SizeAlignment, MinBytesPerRow, MaxBytesPerRow, BytesPerRowDivisor, StartOffsetDivisor, DisplayRectAlignment, RequiredMinSize, RequiredMaxSize, MaxWidthTimesHeight, Width, Height, absent, sides_of, values_of, value_among}
use Rattle.sysmem_image.specs.Size.{square}
use Rattle.sysmem_image.proofs.CallerLemmas.{with_values}
use Rattle.certificate_text.specs.SettingsSaid.{bounds_by, no_bounds}

each_value : (b : ImageBounds) (f : Bound) → value_among (values_of b) f ≡ sides_of b f
each_value b MinSize = refl
each_value b MaxSize = refl
each_value b SizeAlignment = refl
each_value b MinBytesPerRow = refl
each_value b MaxBytesPerRow = refl
each_value b BytesPerRowDivisor = refl
each_value b StartOffsetDivisor = refl
each_value b DisplayRectAlignment = refl
each_value b RequiredMinSize = refl
each_value b RequiredMaxSize = refl
each_value b MaxWidthTimesHeight = refl

-- bounds are those of their values
pub bounds_by-values_of : (b : ImageBounds) → bounds_by (values_of b) ≡ b
bounds_by-values_of b = with_values b (value_among (values_of b)) (each_value b)

-- what is read by its values is read
pub read_by_values : (r : Option ImageBounds) (said : Option (List Size)) → option_map values_of r ≡ said → r ≡ option_map bounds_by said
read_by_values (Some b) said is = ap Some (sym (bounds_by-values_of b)) ∙ ap (option_map bounds_by) is
read_by_values None said is = ap (option_map bounds_by) is

square_of : (n : ℕ) (s : Size) → s.width ≡ n → s.height ≡ n → square n ≡ s
square_of n s wide high =
    ap (λ w. record { width = w; height = n }) (sym wide) ∙ ap (λ h. record { width = s.width; height = h }) (sym high)

each_own : (b : ImageBounds) → IsOwn NoImage b → (f : Bound) → square (absent f) ≡ sides_of b f
each_own b own MinSize = square_of _ (sides_of b MinSize) (own MinSize Width) (own MinSize Height)
each_own b own MaxSize = square_of _ (sides_of b MaxSize) (own MaxSize Width) (own MaxSize Height)
each_own b own SizeAlignment = square_of _ (sides_of b SizeAlignment) (own SizeAlignment Width) (own SizeAlignment Height)
each_own b own MinBytesPerRow = square_of _ (sides_of b MinBytesPerRow) (own MinBytesPerRow Width) (own MinBytesPerRow Height)
each_own b own MaxBytesPerRow = square_of _ (sides_of b MaxBytesPerRow) (own MaxBytesPerRow Width) (own MaxBytesPerRow Height)
each_own b own BytesPerRowDivisor = square_of _ (sides_of b BytesPerRowDivisor) (own BytesPerRowDivisor Width) (own BytesPerRowDivisor Height)
each_own b own StartOffsetDivisor = square_of _ (sides_of b StartOffsetDivisor) (own StartOffsetDivisor Width) (own StartOffsetDivisor Height)
each_own b own DisplayRectAlignment = square_of _ (sides_of b DisplayRectAlignment) (own DisplayRectAlignment Width) (own DisplayRectAlignment Height)
each_own b own RequiredMinSize = square_of _ (sides_of b RequiredMinSize) (own RequiredMinSize Width) (own RequiredMinSize Height)
each_own b own RequiredMaxSize = square_of _ (sides_of b RequiredMaxSize) (own RequiredMaxSize Width) (own RequiredMaxSize Height)
each_own b own MaxWidthTimesHeight = square_of _ (sides_of b MaxWidthTimesHeight) (own MaxWidthTimesHeight Width) (own MaxWidthTimesHeight Height)

-- the bounds of no entry on no image
pub own_is_no_bounds : (b : ImageBounds) → IsOwn NoImage b → b ≡ no_bounds
own_is_no_bounds b own = sym (with_values b (λ f. square (absent f)) (each_own b own))

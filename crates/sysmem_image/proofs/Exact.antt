-- Merged bounds are exact.
use Rattle.std.proofs.Common.{◌↔◌, ◌*◌, ◌<◌, ◌≤◌, List, map, length, subst, sym, arith}
use Rattle.std.specs.Prelude.{All}
use Rattle.std.specs.Int.{◌∣◌}
use Rattle.std.proofs.lemmas.List.{get_or-map, length-map}
use Rattle.std.proofs.lemmas.List.Elements.{All-map}
use Rattle.std.proofs.lemmas.Nat.Gcd.{dvd_trans}
use Rattle.sysmem_formats.specs.declared.offer.Offer.{Offer}
use Rattle.sysmem_formats.specs.Layout.{width_alignment_of, height_alignment_of, row_divisor_of}
use Rattle.sysmem_image.specs.declared.bounds.ImageBounds.{ImageBounds}
use Rattle.sysmem_image.specs.declared.entry.Entry.{Entry}
use Rattle.sysmem_image.specs.Bounds.{IsTighter, IsInRange, Suits, IsOwn}
use Rattle.sysmem_image.specs.Images.{Image, Admits, IsLargeEnough}
use Rattle.sysmem_image.specs.Merged.{MergedOf}
use Rattle.sysmem_image.specs.Entries.{effective, effective_all}
use Rattle.sysmem_image.specs.Fields.{Bound, MinSize, MaxSize, SizeAlignment, MinBytesPerRow, MaxBytesPerRow, BytesPerRowDivisor, RequiredMaxSize, MaxWidthTimesHeight, Side, Width, Height, value}
use Rattle.sysmem_image.proofs.Sound.{own_kept}
use Rattle.sysmem_image.proofs.Steps.{all_map}
use Rattle.sysmem_counts.specs.Bounds.{most_number}

-- merged bounds suit the offer
pub merged_suits : (o : Offer) (es : List ImageBounds) (b : ImageBounds) → MergedOf o es b → Suits o b
merged_suits o es b old = record {
  width = (old.each SizeAlignment Width).suits;
  height = (old.each SizeAlignment Height).suits;
  row = (old.each BytesPerRowDivisor Width).suits;
}

-- bounds that suit the offer keep to merged bounds exactly where they keep to each of the list
pub merged_exact : (o : Offer) (es : List ImageBounds) (b : ImageBounds) → MergedOf o es b → (s : ImageBounds) → IsInRange s → Suits o s → IsTighter s b ↔ All (λ e. IsTighter s e) es
merged_exact o es b old s in_range suits =
    let exactly = λ (f : Bound) (d : Side). (old.each f d).exactly (value f d s) (own_kept o s in_range suits f d) in (
      λ t k x within f d. (exactly f d).0 (t f d) k x within,
      λ all f d. (exactly f d).1 (λ k x within. all k x within f d),
    )

-- merged bounds admit an image exactly where the own bounds and each of the list admit it
pub intersection : (o : Offer) (own' b : ImageBounds) (es : List ImageBounds) → IsOwn o own' → MergedOf o es b → (i : Image) → Admits o b i ↔ (Admits o own' i × All (λ e. Admits o e i) es)
intersection o own' b es own old i = (
  λ a.
      let some_width : 1 ≤ i.width = omega (arith, b.min_width_some, a.min_width) in
      let some_height : 1 ≤ i.height = omega (arith, b.min_height_some, a.min_height) in
      let some_row : 1 ≤ i.row = omega (arith, b.min_row_some, a.min_row) in
      let small_width : i.width ≤ most_number = omega (arith, a.max_width, old.in_range MaxSize Width) in
      let small_height : i.height ≤ most_number = omega (arith, a.max_height, old.in_range MaxSize Height) in
      let small_row : i.row ≤ most_number = omega (arith, a.max_row, old.in_range MaxBytesPerRow Width) in
      let own_width : width_alignment_of o ∣ i.width = dvd_trans (width_alignment_of o) (old.each SizeAlignment Width).suits a.width_alignment in
      let own_height : height_alignment_of o ∣ i.height = dvd_trans (height_alignment_of o) (old.each SizeAlignment Height).suits a.height_alignment in
      let own_row : row_divisor_of o ∣ i.row = dvd_trans (row_divisor_of o) (old.each BytesPerRowDivisor Width).suits a.row_divisor in
      let small_area : i.width * i.height ≤ 18446744073709551615 = omega (arith, a.area, old.in_range MaxWidthTimesHeight Width) in
      let min_width = ((old.each MinSize Width).exactly i.width some_width).0 a.min_width in
      let min_height = ((old.each MinSize Height).exactly i.height some_height).0 a.min_height in
      let max_width = ((old.each MaxSize Width).exactly i.width small_width).0 a.max_width in
      let max_height = ((old.each MaxSize Height).exactly i.height small_height).0 a.max_height in
      let width_alignment = ((old.each SizeAlignment Width).exactly i.width own_width).0 a.width_alignment in
      let height_alignment = ((old.each SizeAlignment Height).exactly i.height own_height).0 a.height_alignment in
      let min_row = ((old.each MinBytesPerRow Width).exactly i.row some_row).0 a.min_row in
      let max_row = ((old.each MaxBytesPerRow Width).exactly i.row small_row).0 a.max_row in
      let row_divisor = ((old.each BytesPerRowDivisor Width).exactly i.row own_row).0 a.row_divisor in
      let area = ((old.each MaxWidthTimesHeight Width).exactly (i.width * i.height) small_area).0 a.area in (
        record {
          min_width = omega (arith, (own MinSize Width), some_width);
          min_height = omega (arith, (own MinSize Height), some_height);
          max_width = omega (arith, (own MaxSize Width), small_width);
          max_height = omega (arith, (own MaxSize Height), small_height);
          width_alignment = subst (λ z. z ∣ i.width) (sym (own SizeAlignment Width)) own_width;
          height_alignment = subst (λ z. z ∣ i.height) (sym (own SizeAlignment Height)) own_height;
          min_row = omega (arith, (own MinBytesPerRow Width), some_row);
          max_row = omega (arith, (own MaxBytesPerRow Width), small_row);
          row_divisor = subst (λ z. z ∣ i.row) (sym (own BytesPerRowDivisor Width)) own_row;
          row_bytes = a.row_bytes;
          area = omega (arith, own MaxWidthTimesHeight Width, small_area);
        },
        λ k d within. record {
          min_width = min_width k d within;
          min_height = min_height k d within;
          max_width = max_width k d within;
          max_height = max_height k d within;
          width_alignment = width_alignment k d within;
          height_alignment = height_alignment k d within;
          min_row = min_row k d within;
          max_row = max_row k d within;
          row_divisor = row_divisor k d within;
          row_bytes = a.row_bytes;
          area = area k d within;
        },
      ),
  λ both.
      let a = both.0 in
      let some_width : 1 ≤ i.width = omega (arith, (own MinSize Width), a.min_width) in
      let some_height : 1 ≤ i.height = omega (arith, (own MinSize Height), a.min_height) in
      let some_row : 1 ≤ i.row = omega (arith, (own MinBytesPerRow Width), a.min_row) in
      let small_width : i.width ≤ most_number = omega (arith, (own MaxSize Width), a.max_width) in
      let small_height : i.height ≤ most_number = omega (arith, (own MaxSize Height), a.max_height) in
      let small_row : i.row ≤ most_number = omega (arith, (own MaxBytesPerRow Width), a.max_row) in
      let small_area : i.width * i.height ≤ 18446744073709551615 = omega (arith, own MaxWidthTimesHeight Width, a.area) in
      let own_width : width_alignment_of o ∣ i.width = subst (λ z. z ∣ i.width) (own SizeAlignment Width) a.width_alignment in
      let own_height : height_alignment_of o ∣ i.height = subst (λ z. z ∣ i.height) (own SizeAlignment Height) a.height_alignment in
      let own_row : row_divisor_of o ∣ i.row = subst (λ z. z ∣ i.row) (own BytesPerRowDivisor Width) a.row_divisor in
      record {
        min_width = ((old.each MinSize Width).exactly i.width some_width).1 (all_map (λ e. Admits o e i) (λ e. e.min_size.width ≤ i.width) es (λ e k. k.min_width) both.1);
        min_height = ((old.each MinSize Height).exactly i.height some_height).1 (all_map (λ e. Admits o e i) (λ e. e.min_size.height ≤ i.height) es (λ e k. k.min_height) both.1);
        max_width = ((old.each MaxSize Width).exactly i.width small_width).1 (all_map (λ e. Admits o e i) (λ e. i.width ≤ e.max_size.width) es (λ e k. k.max_width) both.1);
        max_height = ((old.each MaxSize Height).exactly i.height small_height).1 (all_map (λ e. Admits o e i) (λ e. i.height ≤ e.max_size.height) es (λ e k. k.max_height) both.1);
        width_alignment = ((old.each SizeAlignment Width).exactly i.width own_width).1 (all_map (λ e. Admits o e i) (λ e. e.size_alignment.width ∣ i.width) es (λ e k. k.width_alignment) both.1);
        height_alignment = ((old.each SizeAlignment Height).exactly i.height own_height).1 (all_map (λ e. Admits o e i) (λ e. e.size_alignment.height ∣ i.height) es (λ e k. k.height_alignment) both.1);
        min_row = ((old.each MinBytesPerRow Width).exactly i.row some_row).1 (all_map (λ e. Admits o e i) (λ e. e.min_bytes_per_row ≤ i.row) es (λ e k. k.min_row) both.1);
        max_row = ((old.each MaxBytesPerRow Width).exactly i.row small_row).1 (all_map (λ e. Admits o e i) (λ e. i.row ≤ e.max_bytes_per_row) es (λ e k. k.max_row) both.1);
        row_divisor = ((old.each BytesPerRowDivisor Width).exactly i.row own_row).1 (all_map (λ e. Admits o e i) (λ e. e.bytes_per_row_divisor ∣ i.row) es (λ e k. k.row_divisor) both.1);
        row_bytes = a.row_bytes;
        area = ((old.each MaxWidthTimesHeight Width).exactly (i.width * i.height) small_area).1 (all_map (λ e. Admits o e i) (λ e. i.width * i.height ≤ e.max_width_times_height) es (λ e k. k.area) both.1);
      },
)

-- what holds of each of a mapped list holds of each image of the list
pub all_unmap : {X Y : Type 0} (P : Y → Type 0) (f : X → Y) (xs : List X) → All P (map f xs) → All (λ x. P (f x)) xs
all_unmap P f xs all = λ k d within.
    let inside : k < length (map f xs) = omega (arith, length-map xs f) in
    subst P (get_or-map f xs k d (f d) within) (all k (f d) inside)

-- the same of entries
pub entries_intersection : (o : Offer) (own b : ImageBounds) (es : List Entry) → IsOwn o own → MergedOf o (effective_all o es) b → (i : Image) → Admits o b i ↔ (Admits o own i × All (λ e. Admits o (effective o e) i) es)
entries_intersection o own b es is_own old i =
    let both = intersection o own b (effective_all o es) is_own old i in (
      λ a. let parts = both.0 a in (parts.0, all_unmap (λ e. Admits o e i) (effective o) es parts.1),
      λ parts. both.1 (parts.0, All-map (λ e. Admits o e i) (effective o) es parts.1),
    )

-- looser bounds admit each image that tighter ones admit
pub looser_admits : (o : Offer) (a b : ImageBounds) → IsTighter a b → (i : Image) → Admits o a i → IsLargeEnough a i → Admits o b i × IsLargeEnough b i
looser_admits o a b t i admitted large = (
  record {
    min_width = omega (arith, (t MinSize Width), admitted.min_width);
    min_height = omega (arith, (t MinSize Height), admitted.min_height);
    max_width = omega (arith, (t MaxSize Width), admitted.max_width);
    max_height = omega (arith, (t MaxSize Height), admitted.max_height);
    width_alignment = dvd_trans b.size_alignment.width (t SizeAlignment Width) admitted.width_alignment;
    height_alignment = dvd_trans b.size_alignment.height (t SizeAlignment Height) admitted.height_alignment;
    min_row = omega (arith, (t MinBytesPerRow Width), admitted.min_row);
    max_row = omega (arith, (t MaxBytesPerRow Width), admitted.max_row);
    row_divisor = dvd_trans b.bytes_per_row_divisor (t BytesPerRowDivisor Width) admitted.row_divisor;
    row_bytes = admitted.row_bytes;
    area = omega (arith, t MaxWidthTimesHeight Width, admitted.area);
  },
  record {
    width = omega (arith, (t RequiredMaxSize Width), large.width);
    height = omega (arith, (t RequiredMaxSize Height), large.height);
  },
)

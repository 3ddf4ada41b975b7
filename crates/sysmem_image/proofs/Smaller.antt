-- The corner is least.
use Rattle.std.proofs.Common.{◌≡◌, ℕ, ◌*◌, ◌≤◌, arith, sym, subst}
use Rattle.sysmem_formats.specs.declared.offer.Offer.{Offer}
use Rattle.sysmem_formats.specs.Layout.{row_bytes_of, image_bytes_of}
use Rattle.sysmem_image.specs.declared.size.Corner.{Corner}
use Rattle.sysmem_image.specs.declared.bounds.ImageBounds.{ImageBounds}
use Rattle.sysmem_image.specs.Corners.{IsWidth, IsHeight, IsRow, IsCorner, IsLeastAbove, AreLeastSides, HasArea}
use Rattle.sysmem_image.proofs.Layouts.{row_bytes_mono, image_bytes_mono}

-- the least sides and row make the corner
pub corner_from : (o : Offer) (b : ImageBounds) (k : Corner)
    → AreLeastSides b k.width k.height
    → IsLeastAbove b.bytes_per_row_divisor b.min_bytes_per_row (row_bytes_of o k.width) k.bytes_per_row → k.bytes_per_row ≤ b.max_bytes_per_row
    → k.width * k.height ≤ b.max_width_times_height → k.bytes ≡ image_bytes_of o k.bytes_per_row k.height → IsCorner o b k
corner_from o b k least long short area bytes =
    let wide = least.width in
    let high = least.height in
    let least_width : (w : ℕ) → IsWidth b w → k.width ≤ w = λ w is. wide.least w is.alignment is.from is.required in
    let least_height : (h : ℕ) → IsHeight b h → k.height ≤ h = λ h is. high.least h is.alignment is.from is.required in
    let least_row : (w r : ℕ) → IsWidth b w → IsRow o b w r → k.bytes_per_row ≤ r = λ w r is_width is_row.
    let enough : row_bytes_of o k.width ≤ r = omega (arith, row_bytes_mono o k.width w (least_width w is_width), is_row.row_bytes) in
    long.least r is_row.divisor is_row.from enough in
    record {
      admitted = record {
        min_width = wide.from;
        min_height = high.from;
        max_width = least.max_width;
        max_height = least.max_height;
        width_alignment = wide.multiple;
        height_alignment = high.multiple;
        min_row = long.from;
        max_row = short;
        row_divisor = long.multiple;
        row_bytes = long.above;
        area = area;
      };
      large = record { width = wide.above; height = high.above };
      bytes = bytes;
      least_width = least_width;
      least_height = least_height;
      least_row = least_row;
      least_bytes = λ w h r is_width is_height is_row. subst (λ n. n ≤ image_bytes_of o r h) (sym bytes) (image_bytes_mono o k.bytes_per_row r k.height h (least_row w r is_width is_row) (least_height h is_height));
    }

-- the least sides are sides that the bounds allow
pub area_from : (b : ImageBounds) (w h : ℕ) → AreLeastSides b w h → w * h ≤ b.max_width_times_height → HasArea b
area_from b w h least area = record {
  sides = record {
    width = w;
    is_width = record { alignment = least.width.multiple; from = least.width.from; required = least.width.above };
    max_width = least.max_width;
    height = h;
    is_height = record { alignment = least.height.multiple; from = least.height.from; required = least.height.above };
    max_height = least.max_height;
  };
  area = area;
}

-- Bounds have one corner.
use Rattle.std.proofs.Common.{◌≡◌, ℕ, ◌≤◌, sym, ◌∙◌, ap, arith}
use Rattle.sysmem_formats.specs.declared.offer.Offer.{Offer}
use Rattle.sysmem_formats.specs.Layout.{image_bytes_of}
use Rattle.sysmem_image.specs.declared.bounds.ImageBounds.{ImageBounds}
use Rattle.sysmem_image.specs.declared.size.Corner.{Corner}
use Rattle.sysmem_image.specs.Corners.{IsCorner, image_of}
use Rattle.sysmem_image.specs.Laws.{CornerIsLeast, IsUpTo}

up_to_both : (m n : ℕ) → m ≤ n → n ≤ m → m ≡ n
up_to_both m n a b = omega (arith, a, b)

corner_with : ℕ → ℕ → ℕ → ℕ → Corner
corner_with width height row bytes = record { width = width; height = height; bytes_per_row = row; bytes = bytes }

same_corner : (k m : Corner) → k.width ≡ m.width → k.height ≡ m.height → k.bytes_per_row ≡ m.bytes_per_row → k.bytes ≡ m.bytes → k ≡ m
unfolding corner_with
same_corner k m width height row bytes =
    ap (λ (n : ℕ). corner_with n k.height k.bytes_per_row k.bytes) width
    ∙ (ap (λ (n : ℕ). corner_with m.width n k.bytes_per_row k.bytes) height
    ∙ (ap (λ (n : ℕ). corner_with m.width m.height n k.bytes) row
    ∙ ap (λ (n : ℕ). corner_with m.width m.height m.bytes_per_row n) bytes))

-- bounds have one corner
pub one_corner : CornerIsLeast → (o : Offer) (b : ImageBounds) (k m : Corner) → IsCorner o b k → IsCorner o b m → k ≡ m
one_corner least o b k m x y =
    let to : IsUpTo o k (image_of m) = least o b k x (image_of m) y.admitted y.large in
    let from : IsUpTo o m (image_of k) = least o b m y (image_of k) x.admitted x.large in
    let height : k.height ≡ m.height = up_to_both k.height m.height to.height from.height in
    let row : k.bytes_per_row ≡ m.bytes_per_row = up_to_both k.bytes_per_row m.bytes_per_row to.row from.row in
    let bytes : k.bytes ≡ m.bytes = x.bytes ∙ (ap (λ (r : ℕ). image_bytes_of o r k.height) row ∙ (ap (λ (h : ℕ). image_bytes_of o m.bytes_per_row h) height ∙ sym y.bytes)) in
    same_corner k m (up_to_both k.width m.width to.width from.width) height row bytes

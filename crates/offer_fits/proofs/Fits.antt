-- The least size and bounds of an offer, and the line where there are none.
use Rattle.std.proofs.Common.{arith, ℕ, ◌≡◌, ◌≤◌, ◌<◌, ◌^◌, max, List, [], ◌∷◌, None, All, refl, subst}
use Rattle.std.proofs.lemmas.List.Elements.{All-weaker}
use Rattle.sysmem_counts.specs.declared.field.Field.{Field}
use Rattle.sysmem_counts.specs.declared.field.Field.TheVariants.{PixelFormat, ColorSpaces, MaxSizeBytes}
use Rattle.sysmem_formats.specs.declared.offer.Offer.{Offer}
use Rattle.sysmem_formats.specs.declared.offer.Offer.TheVariants.{NoImage, Image as image}
use Rattle.sysmem_image.proofs.CallerLemmas.{merged_exact, merged_own, merged_suits, looser_admits, tighter_refl, merged_reads}
use Rattle.sysmem_image.specs.declared.bounds.ImageBounds.{ImageBounds}
use Rattle.sysmem_image.specs.declared.entry.Entry.{Entry}
use Rattle.sysmem_image.specs.declared.size.Corner.{Corner}
use Rattle.sysmem_image.specs.Bounds.{IsTighter}
use Rattle.sysmem_image.specs.Corners.{IsCorner, image_of}
use Rattle.sysmem_image.specs.Entries.{first_match}
use Rattle.sysmem_image.specs.Laws.{ReadsAs}
use Rattle.sysmem_image.specs.Lines.{IsBoundsLine}
use Rattle.sysmem_image.specs.Merged.{MergedOf}
use Rattle.sysmem_image.specs.Size.{IsSizeUpTo}
use Rattle.offer_fits.specs.declared.fit.Fit.{Fit}
use Rattle.offer_fits.specs.Sizes.{AreSizes}
use Rattle.offer_fits.specs.Demands.{OfferDemand}
use Rattle.offer_fits.specs.Fit.{OwnWithoutImage, IsSoundFit, CoversFit, MeetsFit, IsNoBetterFit, IsBestFit}
use Rattle.offer_fits.specs.Offers.{IsListed, bounds_asked}
use Rattle.offer_fits.specs.OfferLines.{IsOfferLine}
use Rattle.offer_fits.proofs.Asked.{asked_each}
use Rattle.offer_fits.proofs.Tighter.{tighter_asked}

-- no entry is one for no image
no_match : (es : List Entry) → first_match NoImage es ≡ None
no_match [] = refl
no_match (e ∷ es) = no_match es

-- so no bounds are asked of it
none_asked : (ds : List OfferDemand) → bounds_asked NoImage ds ≡ []
none_asked [] = refl
none_asked (d ∷ ds) = rw (no_match d.entries) (none_asked ds)

-- without an image what stands for all that is asked is the offer's own
own_without_image : (o : Offer) (ds : List OfferDemand) (b : ImageBounds) → MergedOf o (bounds_asked o ds) b → OwnWithoutImage o b
own_without_image NoImage ds b merged = merged_own NoImage b (subst (λ es. MergedOf NoImage es b) (none_asked ds) merged)
own_without_image (image pair colour) ds b merged = tt

-- the merged bounds, and a size that holds their corner and that the participants take, meet them
merged_meets : (o : Offer) (ds : List OfferDemand) (b : ImageBounds) (k : Corner) (least greatest size : ℕ)
    → MergedOf o (bounds_asked o ds) b → All (IsListed o) ds → AreSizes ds least greatest → IsCorner o b k → IsSizeUpTo b.min_size b.required_min_size
    → k.bytes ≤ size → least ≤ size → 1 ≤ size → size ≤ greatest → size < 2 ^ 64 → MeetsFit ds (record { offer = o; bounds = b; size_bytes = size })
merged_meets o ds b k least greatest size merged listed sizes corner required holds low some high small =
    let suits = merged_suits o (bounds_asked o ds) b merged in
    let bounds = asked_each o (IsTighter b) ds ((merged_exact o (bounds_asked o ds) b merged b merged.in_range suits).0 (tighter_refl b)) in
    let mins = (sizes.low size).0 low in
    let maxs = (sizes.high size small).0 high in
    record {
      sound = record {
        some = some;
        fits = small;
        own = own_without_image o ds b merged;
        holds = record {
          image = image_of k;
          bounds = record { in_range = merged.in_range; suits = suits; required = required; admitted = corner.admitted; large = corner.large };
          bytes = omega (arith, corner.bytes, holds);
        };
      };
      covers = λ i d inside. record {
        offer = record { format = (listed i d inside).format; colour = (listed i d inside).colour; bounds = bounds i d inside };
        min_size = mins i d inside;
        max_size = maxs i d inside;
      };
    }

-- the bounds of a fit that meets the participants keep to the merged bounds
meets_tighter : (ds : List OfferDemand) (b : ImageBounds) (t : Fit) → MergedOf t.offer (bounds_asked t.offer ds) b → MeetsFit ds t → IsTighter t.bounds b
meets_tighter ds b t merged meets =
    (merged_exact t.offer (bounds_asked t.offer ds) b merged t.bounds meets.sound.holds.bounds.in_range meets.sound.holds.bounds.suits).1 (tighter_asked t ds meets.covers)

-- and its size holds their corner
meets_holds : (b : ImageBounds) (k : Corner) (t : Fit) → IsCorner t.offer b k → IsTighter t.bounds b → IsSoundFit t → k.bytes ≤ t.size_bytes
meets_holds b k t corner tighter sound =
    let i = sound.holds.image in
    let admits = looser_admits t.offer t.bounds b tighter i sound.holds.bounds.admitted sound.holds.bounds.large in
    let a = admits.0 in
    let least = corner.least_bytes i.width i.height i.row
    (record { alignment = a.width_alignment; from = a.min_width; required = admits.1.width })
    (record { alignment = a.height_alignment; from = a.min_height; required = admits.1.height })
    (record { divisor = a.row_divisor; from = a.min_row; row_bytes = a.row_bytes }) in
    omega (arith, least, sound.holds.bytes)

-- no fit that meets the participants has a smaller size, or bounds that ask for less
none_better : (ds : List OfferDemand) (b : ImageBounds) (k : Corner) (least greatest : ℕ) (t : Fit)
    → MergedOf t.offer (bounds_asked t.offer ds) b → AreSizes ds least greatest → IsCorner t.offer b k → MeetsFit ds t
    → IsNoBetterFit t (record { offer = t.offer; bounds = b; size_bytes = max (max k.bytes least) 1 })
none_better ds b k least greatest t merged sizes corner meets =
    let tighter = meets_tighter ds b t merged meets in
    let mins = All-weaker (CoversFit t) (λ d. d.min_size_bytes ≤ t.size_bytes) (λ d c. c.min_size) ds meets.covers in
    record {
      size = omega (arith, meets.sound.some, meets_holds b k t corner tighter meets.sound, (sizes.low t.size_bytes).1 mins);
      bounds = tighter;
    }

-- the merged bounds with the least size that holds their corner are best
pub best_from : (o : Offer) (ds : List OfferDemand) (b : ImageBounds) (k : Corner) (least greatest : ℕ)
    → MergedOf o (bounds_asked o ds) b × All (IsListed o) ds → AreSizes ds least greatest → IsCorner o b k → IsSizeUpTo b.min_size b.required_min_size
    → greatest < 2 ^ 64 → max (max k.bytes least) 1 ≤ greatest → IsBestFit o ds (record { offer = o; bounds = b; size_bytes = max (max k.bytes least) 1 })
best_from o ds b k least greatest kept sizes corner required small within = record {
  offer = refl;
  meets = merged_meets o ds b k least greatest (max (max k.bytes least) 1) kept.0 kept.1 sizes corner required (omega arith) (omega arith) (omega arith) within (omega (arith, small, within));
  best = λ t same. subst
      (λ x. MergedOf x (bounds_asked x ds) b → IsCorner x b k → MeetsFit ds t → IsNoBetterFit t (record { offer = x; bounds = b; size_bytes = max (max k.bytes least) 1 }))
      same (λ merged is meets. none_better ds b k least greatest t merged sizes is meets) kept.0 corner;
}

-- a line of bounds is a line of the offer
pub bounds_line : (field : Field) (o : Offer) (ds : List OfferDemand) → IsBoundsLine field o (bounds_asked o ds) → IsOfferLine field o ds
bounds_line PixelFormat o ds line = absurd line
bounds_line ColorSpaces o ds line = absurd line
bounds_line MaxSizeBytes o ds line = absurd line
bounds_line field o ds line = line

-- where that size is above the greatest, its line is true
pub size_line : (o : Offer) (ds : List OfferDemand) (b : ImageBounds) (k : Corner) (least greatest : ℕ)
    → MergedOf o (bounds_asked o ds) b → AreSizes ds least greatest → IsCorner o b k
    → greatest < max (max k.bytes least) 1 → IsOfferLine MaxSizeBytes o ds
size_line o ds b k least greatest merged sizes corner above =
    let reads : ReadsAs o (bounds_asked o ds) b = merged_reads o (bounds_asked o ds) b merged in (
      reads.alignments,
      reads.divisors,
      λ w h r n wide high long holds some small mins maxs.
          let bytes = corner.least_bytes w h r ((reads.width w).1 wide) ((reads.height h).1 high) ((reads.row w r).1 long) in
          omega (arith, bytes, holds, above, some, (sizes.low n).1 mins, (sizes.high n small).1 maxs),
    )

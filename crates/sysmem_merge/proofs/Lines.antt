-- A true line of some participants leaves no fit that meets all of them.
use Rattle.std.proofs.Common.{◌≡◌, ◌≤◌, false, List, All, sym, subst}
use Rattle.std.proofs.lemmas.List.Elements.{All-weaker}
use Rattle.list_lemmas.proofs.CallerLemmas.{Any-not_All}
use Rattle.sysmem_counts.specs.declared.field.Field.{Field}
use Rattle.sysmem_counts.specs.declared.field.Field.TheVariants.{PixelFormat, ColorSpaces, MaxSizeBytes}
use Rattle.sysmem_formats.specs.declared.offer.Offer.{Offer}
use Rattle.sysmem_image.proofs.CallerLemmas.{fits_image, keeps_each, line_holds}
use Rattle.sysmem_image.specs.Bounds.{IsTighter}
use Rattle.sysmem_image.specs.Laws.{FitsImage}
use Rattle.sysmem_image.specs.Lines.{IsBoundsLine, KeepsCorner, KeepsLine, corner_reads, reads}
use Rattle.offer_fits.proofs.CallerLemmas.{tighter_asked}
use Rattle.offer_fits.specs.declared.fit.Fit.{Fit}
use Rattle.sysmem_merge.specs.Demands.{OfferDemand}
use Rattle.sysmem_merge.specs.Fit.{IsSoundFit, CoversFit, MeetsFit}
use Rattle.sysmem_merge.specs.Laws.{SizeLineHolds}
use Rattle.sysmem_merge.specs.Offers.{has_format, has_colour, bounds_asked}
use Rattle.sysmem_merge.specs.Reasons.{IsOfferLine}

-- a true line of bounds leaves no sound fit that covers the participants
bounds_line_clash : (field : Field) (t : Fit) (ds : List OfferDemand) → IsBoundsLine field t.offer (bounds_asked t.offer ds) → IsSoundFit t → All (CoversFit t) ds → ⊥
bounds_line_clash field t ds line sound covers =
    line_holds field t.offer (bounds_asked t.offer ds) line t.bounds sound.holds.image sound.holds.bounds
    (All-weaker (IsTighter t.bounds) (KeepsLine field t.bounds) (λ e. keeps_each (reads field) t.bounds e) (bounds_asked t.offer ds) (tighter_asked t ds covers))

-- the size's line leaves no sound fit whose size suits the participants and whose bounds keep to
-- theirs in the fields that the corner reads
pub size_line_holds : SizeLineHolds
size_line_holds t ds line sound keeps mins maxs =
    let fits : FitsImage t.offer (bounds_asked t.offer ds) sound.holds.image = fits_image t.offer (bounds_asked t.offer ds) t.bounds sound.holds.image sound.holds.bounds keeps in
    line.2 sound.holds.image.width sound.holds.image.height sound.holds.image.row t.size_bytes fits.width fits.height fits.row sound.holds.bytes sound.some sound.fits mins maxs

-- so it leaves none that covers the participants
size_line_clash : (t : Fit) (ds : List OfferDemand) → IsOfferLine MaxSizeBytes t.offer ds → IsSoundFit t → All (CoversFit t) ds → ⊥
size_line_clash t ds line sound covers =
    size_line_holds t ds line sound
    (All-weaker (IsTighter t.bounds) (KeepsCorner t.bounds) (λ e. keeps_each corner_reads t.bounds e) (bounds_asked t.offer ds) (tighter_asked t ds covers))
    (All-weaker (CoversFit t) (λ d. d.min_size_bytes ≤ t.size_bytes) (λ d c. c.min_size) ds covers)
    (All-weaker (CoversFit t) (λ d. t.size_bytes ≤ d.max_size_bytes) (λ d c. c.max_size) ds covers)

-- nor does any
line_clash : (field : Field) (t : Fit) (ds : List OfferDemand) → IsOfferLine field t.offer ds → IsSoundFit t → All (CoversFit t) ds → ⊥
line_clash PixelFormat t ds line sound covers =
    Any-not_All (λ d. has_format t.offer d ≡ false) (CoversFit t) ds (λ d no c. cc (no, c.offer.format)) line covers
line_clash ColorSpaces t ds line sound covers =
    Any-not_All (λ d. has_colour t.offer d ≡ false) (CoversFit t) ds (λ d no c. cc (no, c.offer.colour)) line covers
line_clash MaxSizeBytes t ds line sound covers = size_line_clash t ds line sound covers
line_clash field t ds line sound covers = bounds_line_clash field t ds line sound covers

-- a true offer line leaves no fit that meets the participants
pub line_unmet : (field : Field) (o : Offer) (ds : List OfferDemand) → IsOfferLine field o ds → (t : Fit) → t.offer ≡ o → MeetsFit ds t → ⊥
line_unmet field o ds line t same meets =
    line_clash field t ds (subst (λ x. IsOfferLine field x ds) (sym same) line) meets.sound meets.covers

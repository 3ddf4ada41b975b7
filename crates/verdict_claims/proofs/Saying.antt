-- What a true line says of settings.
use Rattle.std.proofs.Common.{◌≡◌, ◌≢◌, ◌≤◌, Bool, true, false, ◌&&◌, List, [], ◌∷◌, Option, Some, None, IfSome, All, refl, sym, subst}
use Rattle.std.proofs.lemmas.List.Elements.{All-nil, All-cons, All-head, All-tail, All-weaker, All-map}
use Rattle.list_lemmas.proofs.CallerLemmas.{Any-not_All}
use Rattle.sysmem_counts.proofs.CallerLemmas.{line_sound}
use Rattle.sysmem_counts.specs.declared.field.Field.{Field}
use Rattle.sysmem_counts.specs.declared.field.Field.TheVariants.{PixelFormat, ColorSpaces, MaxSizeBytes, UnnamedPixelFormat, UnnamedPixelFormatModifier, UnnamedColorSpace}
use Rattle.sysmem_formats.specs.declared.offer.Offer.{Offer}
use Rattle.sysmem_formats.specs.declared.offer.Offer.TheVariants.{NoImage, Image}
use Rattle.sysmem_image.proofs.CallerLemmas.{fits_image, line_holds}
use Rattle.sysmem_image.specs.declared.bounds.ImageBounds.{ImageBounds}
use Rattle.sysmem_image.specs.Laws.{FitsImage}
use Rattle.sysmem_image.specs.Lines.{IsBoundsLine, KeepsCorner, KeepsLine}
use Rattle.sysmem_memory.specs.Heap.{HeapFacts}
use Rattle.sysmem_memory.specs.PlaceTable.{PlaceDemand, refuses_by}
use Rattle.sysmem_merge.specs.declared.settings.Settings.{Settings}
use Rattle.offer_fits.specs.Demands.{OfferDemand, counts_asked, place_demand, place_demands, offer_demands}
use Rattle.offer_fits.specs.Offers.{entry_bounds, has_format, has_colour, Asks, bounds_asked, is_named, is_format_named, is_modifier_named, is_colour_named}
use Rattle.offer_fits.specs.OfferLines.{IsOfferLine}
use Rattle.sysmem_merge.specs.Reasons.{IsUnnamedLine}
use Rattle.sysmem_merge.specs.Settings.{IsSound}
use Rattle.negotiation_inputs.specs.Platform.{PlatformFacts}
use Rattle.verdict_claims.specs.Cannot.{ObeysLine, LinesSay}
use Rattle.verdict_claims.proofs.Fixing.{count_clash, fails_on_clash}

-- what the bounds that each participant asks have, all bounds that are asked have
entry_all : (P : ImageBounds → Type 0) (o : Option ImageBounds) (d : OfferDemand) (ds : List OfferDemand) → (at : Offer) → entry_bounds at d ≡ o → IfSome o P → All P (bounds_asked at ds) → All P (bounds_asked at (d ∷ ds))
entry_all P None d ds at is one all = rw is all
entry_all P (Some b) d ds at is one all = rw is (All-cons P b (bounds_asked at ds) one all)

asked_all : (o : Offer) (P : ImageBounds → Type 0) (ds : List OfferDemand) → All (Asks o P) ds → All P (bounds_asked o ds)
asked_all o P [] all = All-nil P
asked_all o P (d ∷ ds) all = entry_all P (entry_bounds o d) d ds o refl (All-head (Asks o P) d ds all) (asked_all o P ds (All-tail (Asks o P) d ds all))

size_says : (platform : PlatformFacts) (heap : HeapFacts) (t : Settings) (ds : List OfferDemand) → IsOfferLine MaxSizeBytes t.offer ds → IsSound platform heap t → ¬ (All (ObeysLine MaxSizeBytes t) ds)
size_says platform heap t ds line sound obey =
    let fits : FitsImage t.offer (bounds_asked t.offer ds) sound.fit.holds.image = fits_image t.offer (bounds_asked t.offer ds) t.bounds sound.fit.holds.image sound.fit.holds.bounds
    (asked_all t.offer (KeepsCorner t.bounds) ds (All-weaker (ObeysLine MaxSizeBytes t) (Asks t.offer (KeepsCorner t.bounds)) (λ d o. o.0) ds obey)) in
    line.2 sound.fit.holds.image.width sound.fit.holds.image.height sound.fit.holds.image.row t.size_bytes fits.width fits.height fits.row sound.fit.holds.bytes sound.fit.some sound.fit.fits
    (All-weaker (ObeysLine MaxSizeBytes t) (λ d. d.min_size_bytes ≤ t.size_bytes) (λ d o. o.1) ds obey)
    (All-weaker (ObeysLine MaxSizeBytes t) (λ d. t.size_bytes ≤ d.max_size_bytes) (λ d o. o.2) ds obey)

bounds_say : (field : Field) (platform : PlatformFacts) (heap : HeapFacts) (t : Settings) (ds : List OfferDemand) → IsBoundsLine field t.offer (bounds_asked t.offer ds) → IsSound platform heap t
    → ¬ (All (Asks t.offer (KeepsLine field t.bounds)) ds)
bounds_say field platform heap t ds line sound obey =
    line_holds field t.offer (bounds_asked t.offer ds) line t.bounds sound.fit.holds.image sound.fit.holds.bounds (asked_all t.offer (KeepsLine field t.bounds) ds obey)

offer_says : (field : Field) (platform : PlatformFacts) (heap : HeapFacts) (t : Settings) (ds : List OfferDemand) → IsOfferLine field t.offer ds → IsSound platform heap t → ¬ (All (ObeysLine field t) ds)
offer_says PixelFormat platform heap t ds line sound obey = Any-not_All (λ d. has_format t.offer d ≡ false) (ObeysLine PixelFormat t) ds (λ d no' o. cc (no', o)) line obey
offer_says ColorSpaces platform heap t ds line sound obey = Any-not_All (λ d. has_colour t.offer d ≡ false) (ObeysLine ColorSpaces t) ds (λ d no' o. cc (no', o)) line obey
offer_says MaxSizeBytes platform heap t ds line sound obey = size_says platform heap t ds line sound obey
offer_says field platform heap t ds line sound obey = bounds_say field platform heap t ds line sound obey

all_three : (a b c : Bool) → (a && b && c) ≡ true → (a ≡ true) × (b ≡ true) × (c ≡ true)
all_three true true true e = (refl, refl, refl)
all_three true true false e = absurd (cc (e))
all_three true false c e = absurd (cc (e))
all_three false b c e = absurd (cc (e))

names_of_image : (o : Offer) (ds : List OfferDemand) → o ≢ NoImage → is_named o ds ≡ true → (is_format_named o ds ≡ true) × (is_modifier_named o ds ≡ true) × (is_colour_named o ds ≡ true)
names_of_image NoImage ds image named = absurd (image refl)
names_of_image (Image pair colour) ds image named = all_three (is_format_named (Image pair colour) ds) (is_modifier_named (Image pair colour) ds) (is_colour_named (Image pair colour) ds) named

unnamed_says : (field : Field) (o : Offer) (ds : List OfferDemand) → IsUnnamedLine field o ds → is_named o ds ≡ true → ⊥
unnamed_says UnnamedPixelFormat o ds line named = cc (line.1, (names_of_image o ds line.0 named).0)
unnamed_says UnnamedPixelFormatModifier o ds line named = cc (line.1, (names_of_image o ds line.0 named).1)
unnamed_says UnnamedColorSpace o ds line named = cc (line.1, (names_of_image o ds line.0 named).2)
unnamed_says _ o ds line named = absurd line

pub lines_say : LinesSay
lines_say = record {
  offer = λ platform field o ps line heap t sound same obey. offer_says field platform heap t (offer_demands ps) (subst (λ x. IsOfferLine field x (offer_demands ps)) (sym same) line) sound obey;
  place = λ platform field heap t ps line sound allow.
      Any-not_All (λ (q : PlaceDemand). refuses_by field q.memory q.usage heap t.place.coherency ≡ true) (λ q. refuses_by field q.memory q.usage heap t.place.coherency ≡ false) (place_demands ps)
      (λ q yes' no'. cc (yes', no')) line (All-map (λ (q : PlaceDemand). refuses_by field q.memory q.usage heap t.place.coherency ≡ false) place_demand ps allow);
  count = λ field ps line. line_sound field (counts_asked ps) line;
  unnamed = λ field o ps line named. unnamed_says field o (offer_demands ps) line named;
  fixed_count = λ field count ps line. count_clash field (counts_asked ps) count line;
  fixed_field = λ field platform t p fails. fails_on_clash field platform t p fails;
}

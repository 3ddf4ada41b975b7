-- The first of a list of offers that suits participants.
use Rattle.std.proofs.Common.{ℕ, ◌≡◌, ◌≢◌, ◌&&◌, ◌<◌, inl, inr, Bool, true, false, List, length, Option, Some, Contains, slice_get, get_or, refl, sym, ap, ◌∙◌, subst}
use Rattle.std.proofs.lemmas.Option.{slice_get-get_or, slice_get_read, slice_get_within, get_or_from_slice_get, same_Some}
use Rattle.sysmem_counts.specs.declared.field.Field.{Field}
use Rattle.sysmem_counts.specs.declared.field.Field.TheVariants.{UnnamedPixelFormat, UnnamedPixelFormatModifier, UnnamedColorSpace}
use Rattle.sysmem_formats.specs.declared.colour_space.ColourSpace.{ColourSpace}
use Rattle.sysmem_formats.specs.declared.offer.Offer.{Offer}
use Rattle.sysmem_formats.specs.declared.offer.Offer.TheVariants.{NoImage, Image}
use Rattle.sysmem_formats.specs.declared.offer.Pair.{Pair}
use Rattle.sysmem_formats.specs.Offers.{offers}
use Rattle.offer_fits.specs.declared.fit.Fit.{Fit}
use Rattle.sysmem_merge.specs.declared.kept.KeptOffer.{KeptOffer}
use Rattle.sysmem_merge.specs.Aggregate.{IsKept, AreKept, StandsFor}
use Rattle.sysmem_merge.specs.Demands.{OfferDemand, offer_demands}
use Rattle.sysmem_merge.specs.FirstFit.{IsFirstFit}
use Rattle.sysmem_merge.specs.Fit.{MeetsFit, IsBestFit}
use Rattle.sysmem_merge.specs.Kept.{Kept}
use Rattle.sysmem_merge.specs.Offers.{is_named, is_format_named, is_modifier_named, is_colour_named}
use Rattle.sysmem_merge.specs.Reasons.{IsUnnamedLine, IsOfferRefused}
use Rattle.negotiation_inputs.specs.Participant.{Participant}
use Rattle.negotiation_inputs.specs.Platform.{PlatformFacts, offers_of}
use Rattle.sysmem_merge.proofs.Lines.{line_unmet}

-- of three facts that aren't all true one is false
one_false : (P : Type 0) (a b c : Bool) → a && b && c ≡ false → (a ≡ false → P) → (b ≡ false → P) → (c ≡ false → P) → P
one_false P false b c lacking on_a on_b on_c = on_a refl
one_false P true false c lacking on_a on_b on_c = on_b refl
one_false P true true c lacking on_a on_b on_c = on_c lacking

-- of three facts that are all true none is false
none_false : (a b c : Bool) → a && b && c ≡ true → ((a ≡ true) × (b ≡ true) × (c ≡ true))
none_false true true true all = (refl, refl, refl)
none_false false b c all = cc
none_false true false c all = cc
none_false true true false all = cc

-- an offer that isn't named has a part that nobody names
pub unnamed_line : (o : Offer) (ds : List OfferDemand) → is_named o ds ≡ false → (field : Field) × IsUnnamedLine field o ds
unnamed_line NoImage ds unnamed = cc
unnamed_line (Image pair colour) ds unnamed =
    let image : Image pair colour ≡ NoImage → ⊥ = λ same. cc in
    one_false ((field : Field) × IsUnnamedLine field (Image pair colour) ds)
    (is_format_named (Image pair colour) ds) (is_modifier_named (Image pair colour) ds) (is_colour_named (Image pair colour) ds) unnamed
    (λ no_format. (UnnamedPixelFormat, (image, no_format)))
    (λ no_modifier. (UnnamedPixelFormatModifier, (image, no_modifier)))
    (λ no_colour. (UnnamedColorSpace, (image, no_colour)))

-- each part of an image's name is named where the image is
image_named : (o : Offer) (ds : List OfferDemand) → o ≢ NoImage → is_named o ds ≡ true
    → ((is_format_named o ds ≡ true) × (is_modifier_named o ds ≡ true) × (is_colour_named o ds ≡ true))
image_named NoImage ds image named = absurd (image refl)
image_named (Image pair colour) ds image named =
    none_false (is_format_named (Image pair colour) ds) (is_modifier_named (Image pair colour) ds) (is_colour_named (Image pair colour) ds) named

-- so an offer with a part that nobody names isn't named
unnamed_is : (field : Field) (o : Offer) (ds : List OfferDemand) → IsUnnamedLine field o ds → is_named o ds ≡ true → ⊥
unnamed_is UnnamedPixelFormat o ds line named = let parts = image_named o ds line.0 named in cc (line.1, parts.0)
unnamed_is UnnamedPixelFormatModifier o ds line named = let parts = image_named o ds line.0 named in cc (line.1, parts.1)
unnamed_is UnnamedColorSpace o ds line named = let parts = image_named o ds line.0 named in cc (line.1, parts.2)
unnamed_is _ o ds line named = absurd line

-- a refused offer leaves no fit that is named where that is asked for
pub refused_unmet : (whole : Bool) (o : Offer) (ds : List OfferDemand) → IsOfferRefused whole o ds → (t : Fit) → t.offer ≡ o → MeetsFit ds t
    → (whole ≡ true → is_named o ds ≡ true) → ⊥
refused_unmet whole o ds refused t same meets named = elim refused as (λ _. ⊥) [
  | inl line ↦ line_unmet line.0 o ds line.1 t same meets
  | inr unnamed ↦ unnamed_is unnamed.1.0 o ds unnamed.1.1 (named unnamed.0)
]

-- what is kept at a place is kept of the offer there
pub kept_at : (os : List Offer) (ds : List OfferDemand) (kept : List KeptOffer) (k : ℕ) (one : KeptOffer) (o : Offer) → AreKept os ds kept
    → k < length kept → one ≡ get_or kept k one → slice_get os k ≡ Some o → IsKept o ds one
kept_at os ds kept k one o stands within here offered = stands.each k o one offered (slice_get_read kept (length kept) k one refl within here)

-- a contained offer has a place
pub place_of : (os : List Offer) (o : Offer) → Contains os o → (k : ℕ) × (k < length os) × (slice_get os k ≡ Some o)
place_of os o has = (has.0, has.1, slice_get_read os (length os) has.0 o refl has.1 (sym has.2))

-- and what has a place is contained
pub contained_at : (os : List Offer) (k : ℕ) (o : Offer) → slice_get os k ≡ Some o → Contains os o
contained_at os k o here = (k, slice_get_within os k o here, get_or_from_slice_get os k o o here)

-- the best fit of an offer is the first one, where each offer before it is refused
pub first_from : (whole : Bool) (os : List Offer) (ds : List OfferDemand) (k : ℕ) (fit : Fit) → k < length os
    → ((o : Offer) → slice_get os k ≡ Some o → IsBestFit o ds fit)
    → ((o : Offer) → slice_get os k ≡ Some o → whole ≡ true → is_named o ds ≡ true)
    → ((j : ℕ) (o : Offer) → j < k → slice_get os j ≡ Some o → IsOfferRefused whole o ds) → IsFirstFit whole os ds fit
first_from whole os ds k fit within best named before =
    let there = slice_get-get_or os k NoImage within in
    let here : slice_get os k ≡ Some fit.offer = there ∙ ap (λ o. Some o) (sym (best (get_or os k NoImage) there).offer) in
    record {
      offered = contained_at os k fit.offer here;
      best = best fit.offer here;
      named = named fit.offer here;
      first = λ o earlier. before earlier.index o (earlier.before k here) earlier.here;
    }

-- the offer that is read at a place is the platform's offer there
pub offer_read : (platform : PlatformFacts) (pairs : List Pair) (colours : List ColourSpace) (k : ℕ) (found : Option Offer) (o p : Offer)
    → pairs ≡ platform.pairs → colours ≡ platform.colours → found ≡ slice_get (offers pairs colours) k → found ≡ Some p
    → slice_get (offers_of platform) k ≡ Some o → o ≡ p
offer_read platform pairs colours k found o p same_pairs same_colours read is here =
    let same : offers pairs colours ≡ offers_of platform = ap (λ ps. offers ps colours) same_pairs ∙ ap (λ cs. offers platform.pairs cs) same_colours in
    same_Some o p (sym here ∙ (sym (read ∙ ap (λ os. slice_get os k) same) ∙ is))

-- what is kept of the offers, as it is read, for the offers of the platform that it stands on
pub offers_kept : (kept : Kept) (platform : PlatformFacts) (ps : List Participant) (read : List KeptOffer) → StandsFor kept platform ps
    → read ≡ kept.offers → AreKept (offers_of kept.platform) (offer_demands ps) read
offers_kept kept platform ps read stands same =
    subst (λ (f : PlatformFacts). AreKept (offers_of f) (offer_demands ps) read) (sym stands.on)
    (subst (λ (all : List KeptOffer). AreKept (offers_of platform) (offer_demands ps) all) (sym same) stands.offers)

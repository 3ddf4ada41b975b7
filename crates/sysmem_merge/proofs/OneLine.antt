-- A line that is true of some of the participants leaves no settings to all of them.
use Rattle.std.proofs.Common.{◌≡◌, Bool, true, false, ◌&&◌, List, refl, sym, ◌∙◌, subst}
use Rattle.std.proofs.lemmas.List.Elements.{All-map, All-weaker}
use Rattle.std.proofs.lemmas.Option.{same_Some}
use Rattle.sysmem_counts.proofs.CallerLemmas.{line_sound}
use Rattle.sysmem_counts.specs.declared.field.Field.{Field}
use Rattle.sysmem_counts.specs.declared.field.Field.TheVariants.{UnnamedPixelFormat, UnnamedPixelFormatModifier, UnnamedColorSpace}
use Rattle.sysmem_formats.specs.declared.colour_space.ColourSpace.{ColourSpace}
use Rattle.sysmem_formats.specs.declared.offer.Offer.{Offer}
use Rattle.sysmem_formats.specs.declared.offer.Offer.TheVariants.{NoImage, Image}
use Rattle.sysmem_formats.specs.declared.offer.Pair.{Pair}
use Rattle.sysmem_memory.specs.PlaceTable.{AllowsPlace}
use Rattle.sysmem_merge.specs.Demands.{OfferDemand, counts_asked, place_demand, place_demands, offer_demands}
use Rattle.sysmem_merge.specs.Laws.{OfferLineLeavesNone, PlaceLineLeavesNone, CountLineLeavesNone, UnnamedLineLeavesNone}
use Rattle.sysmem_merge.specs.Offers.{is_format_named, is_modifier_named, is_colour_named, is_named}
use Rattle.sysmem_merge.specs.Reasons.{IsUnnamedLine}
use Rattle.sysmem_merge.specs.Settings.{Covers, MeetsLoosely}
use Rattle.sysmem_merge.proofs.Lines.{line_unmet}
use Rattle.sysmem_merge.proofs.SomeMet.{some_met, unmet_by_some}
use Rattle.sysmem_merge.specs.Fit.{fit_of}
use Rattle.sysmem_merge.proofs.Together.{loosely, fit_met, refused_clash, unmet_by_count}

-- a line for the settings' offer
pub offer_line : OfferLineLeavesNone
offer_line whole platform some all field t among line meets =
    line_unmet field t.offer (offer_demands some) line (fit_of t) refl
    (fit_met platform some t (some_met platform some all t among (loosely whole platform all t meets)))

-- a field that refuses the settings' place
pub place_line : PlaceLineLeavesNone
place_line whole platform some all field heap t among here line meets =
    let m : MeetsLoosely platform some t = some_met platform some all t among (loosely whole platform all t meets) in
    let same = same_Some m.heap heap (sym m.sound.place.heap ∙ here.heap) in
    refused_clash heap t.place.coherency (place_demands some) (field, line)
    (All-map (λ q. AllowsPlace q.memory q.usage heap t.place.coherency) place_demand some
    (All-weaker (Covers m.heap t) (λ p. AllowsPlace p.memory p.usage heap t.place.coherency)
    (λ p c. subst (λ h. AllowsPlace p.memory p.usage h t.place.coherency) same c.place) some m.covers))

-- a line for counts
pub count_line : CountLineLeavesNone
count_line whole platform some all field among line =
    unmet_by_some whole platform some all among (unmet_by_count false platform some (line_sound field (counts_asked some) line))

-- where one of three tests fails, not all pass
all_three : (a b c : Bool) → (a && b && c) ≡ true → (a ≡ true) × (b ≡ true) × (c ≡ true)
all_three true true true is = (refl, refl, refl)
all_three true true false is = absurd (cc is)
all_three true false c is = absurd (cc is)
all_three false b c is = absurd (cc is)

-- each part of a named image's name is named
parts : (pair : Pair) (colour : ColourSpace) (ds : List OfferDemand) → is_named (Image pair colour) ds ≡ true
    → (is_format_named (Image pair colour) ds ≡ true) × (is_modifier_named (Image pair colour) ds ≡ true) × (is_colour_named (Image pair colour) ds ≡ true)
parts pair colour ds named =
    all_three (is_format_named (Image pair colour) ds) (is_modifier_named (Image pair colour) ds) (is_colour_named (Image pair colour) ds) named

-- a part of the name that nobody names leaves the name unnamed
pub unnamed : (field : Field) (o : Offer) (ds : List OfferDemand) → IsUnnamedLine field o ds → is_named o ds ≡ true → ⊥
unnamed UnnamedPixelFormat NoImage ds line named = line.0 refl
unnamed UnnamedPixelFormat (Image pair colour) ds line named = let all = parts pair colour ds named in cc (all.0, line.1)
unnamed UnnamedPixelFormatModifier NoImage ds line named = line.0 refl
unnamed UnnamedPixelFormatModifier (Image pair colour) ds line named = let all = parts pair colour ds named in cc (all.1, line.1)
unnamed UnnamedColorSpace NoImage ds line named = line.0 refl
unnamed UnnamedColorSpace (Image pair colour) ds line named = let all = parts pair colour ds named in cc (all.2, line.1)
unnamed _ o ds line named = absurd line

-- so no settings with that offer meet the participants
pub unnamed_line : UnnamedLineLeavesNone
unnamed_line platform ps field t line meets = unnamed field t.offer (offer_demands ps) line meets.named

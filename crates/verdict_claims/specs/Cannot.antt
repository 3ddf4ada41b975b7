-- What a true line says of settings.
use Rattle.std.specs.Prelude.{◌≡◌, ℕ, ◌≤◌, false, true, List, All}
use Rattle.sysmem_counts.specs.Counts.{IsCountLine, IsFixedCountLine, IsCounted, HasNoCount}
use Rattle.sysmem_counts.specs.declared.field.Field.{Field}
use Rattle.sysmem_counts.specs.declared.field.Field.TheVariants.{PixelFormat, ColorSpaces}
use Rattle.sysmem_counts.specs.declared.field.Field.TheVariants.{MaxSizeBytes}
use Rattle.sysmem_formats.specs.declared.offer.Offer.{Offer}
use Rattle.sysmem_image.specs.Lines.{KeepsCorner, KeepsLine}
use Rattle.sysmem_memory.specs.Heap.{HeapFacts}
use Rattle.sysmem_memory.specs.PlaceTable.{IsPlaceLine, refuses_by}
use Rattle.sysmem_merge.specs.declared.settings.Settings.{Settings}
use Rattle.offer_fits.specs.Demands.{OfferDemand, counts_asked, place_demands, offer_demands}
use Rattle.offer_fits.specs.Offers.{has_format, has_colour, Asks}
use Rattle.offer_fits.specs.OfferLines.{IsOfferLine}
use Rattle.sysmem_merge.specs.Reasons.{IsUnnamedLine}
use Rattle.sysmem_merge.specs.Settings.{CoversOn, IsSound, IsNamed}
use Rattle.negotiation_inputs.specs.Participant.{Participant}
use Rattle.negotiation_inputs.specs.Platform.{PlatformFacts}
use Rattle.sysmem_merge.specs.Failing.{FailsOn}

-- settings are as one participant asks in what the line of the field reads
abbrev pub ObeysLine : Field → Settings → OfferDemand → Type 0
ObeysLine PixelFormat t d = has_format t.offer d ≡ true
ObeysLine ColorSpaces t d = has_colour t.offer d ≡ true
ObeysLine MaxSizeBytes t d = Asks t.offer (KeepsCorner t.bounds) d
    × (d.min_size_bytes ≤ t.size_bytes) × (t.size_bytes ≤ d.max_size_bytes)
ObeysLine field t d = Asks t.offer (KeepsLine field t.bounds) d

-- no sound settings with the offer are as each of the participants asks in what the line reads
abbrev pub CannotOffer : PlatformFacts → Field → Offer → List Participant → Type 0
CannotOffer platform field o ps = (heap : HeapFacts) (t : Settings) → IsSound platform heap t
    → t.offer ≡ o → ¬ (All (ObeysLine field t) (offer_demands ps))

-- no sound settings in the place are
abbrev pub CannotPlace : PlatformFacts → Field → HeapFacts → Settings → List Participant → Type 0
CannotPlace platform field heap t ps = IsSound platform heap t
    → ¬ (All (λ p. refuses_by field p.memory p.usage heap t.place.coherency ≡ false) ps)

-- a true line says that settings can't be: of an offer, of a place, of a count, in an attached
-- domain of the fixed count; one of want of a name that the image isn't named; and a field in which
-- settings fail a participant, that it doesn't accept them
pub record LinesSay : Type 0 where
  pub offer : (platform : PlatformFacts) (field : Field) (o : Offer) (ps : List Participant)
      → IsOfferLine field o (offer_demands ps) → CannotOffer platform field o ps
  pub place : (platform : PlatformFacts) (field : Field) (heap : HeapFacts) (t : Settings)
      (ps : List Participant) → IsPlaceLine field heap t.place.coherency (place_demands ps)
      → CannotPlace platform field heap t ps
  pub count : (field : Field) (ps : List Participant) → IsCountLine field (counts_asked ps)
      → HasNoCount (counts_asked ps)
  pub unnamed : (field : Field) (o : Offer) (ps : List Participant)
      → IsUnnamedLine field o (offer_demands ps) → ¬ (IsNamed o ps)
  pub fixed_count : (field : Field) (count : ℕ) (ps : List Participant)
      → IsFixedCountLine count field (counts_asked ps) → ¬ (IsCounted (counts_asked ps) count)
  pub fixed_field : (field : Field) (platform : PlatformFacts) (t : Settings) (p : Participant)
      → FailsOn field platform t p → ¬ (CoversOn platform t p)

-- When a reason is true of the participants whom it names.
use Rattle.std.specs.Prelude.{◌≡◌, ◌⊎◌, ◌<◌, ◌≤◌, ℕ, Bool, true, false, not}
use Rattle.std.specs.Prelude.{List, [], ◌∷◌, ◌++◌, All, Contains, filter, filter_map, length}
use Rattle.std.specs.Prelude.{Option, Some, None, option_to_list}
use Rattle.sysmem_counts.specs.Counts.{IsCountLine}
use Rattle.sysmem_counts.specs.declared.constraints.CountConstraints.{CountConstraints}
use Rattle.sysmem_counts.specs.declared.field.Field.{Field}
use Rattle.sysmem_counts.specs.declared.field.Field.TheVariants.{MaxSizeBytes, UnnamedPixelFormat}
use Rattle.sysmem_counts.specs.declared.field.Field.TheVariants.{UnnamedPixelFormatModifier}
use Rattle.sysmem_counts.specs.declared.field.Field.TheVariants.{UnnamedColorSpace}
use Rattle.sysmem_formats.specs.declared.offer.Offer.{Offer}
use Rattle.sysmem_image.specs.Lines.{bounds_lines}
use Rattle.sysmem_memory.specs.declared.domain.CoherencyDomain.{CoherencyDomain}
use Rattle.sysmem_memory.specs.Heap.{HeapFacts}
use Rattle.sysmem_memory.specs.PlaceTable.{place_fields, refuses_by}
use Rattle.sysmem_merge.specs.Best.{IsUnmet}
use Rattle.sysmem_merge.specs.Settings.{MeetsAs}
use Rattle.offer_fits.specs.Demands.{offer_demand, offer_demands}
use Rattle.offer_fits.specs.Offers.{has_format, has_colour}
use Rattle.sysmem_merge.specs.OfferRead.{IsRefusingLine}
use Rattle.sysmem_merge.specs.declared.settings.Settings.{Settings}
use Rattle.negotiation_inputs.specs.Participant.{Participant}
use Rattle.negotiation_inputs.specs.Platform.{PlatformFacts}
use Rattle.settings_reasons.specs.declared.offer_reason.Lack.{Lack}
use Rattle.settings_reasons.specs.declared.offer_reason.Lack.TheVariants.{Entry, Colour}
use Rattle.settings_reasons.specs.declared.offer_reason.OfferGround.{OfferGround}
use Rattle.settings_reasons.specs.declared.offer_reason.OfferGround.TheVariants.{NoEntry, NoColour}
use Rattle.settings_reasons.specs.declared.offer_reason.OfferGround.TheVariants.{Line}
use Rattle.value_sources.specs.declared.participant.NamedParticipant.{NamedParticipant}
use Rattle.value_sources.specs.Sources.{all_asked}

-- they are some, and each has the property
pub record AllOfSome (P : Participant → Type 0) (participants : List Participant) : Type 0 where
  pub some : 0 < length participants
  pub each : All P participants

-- the field refuses the coherency domain of the heap to the participant
abbrev pub refuses : Field → HeapFacts → CoherencyDomain → Participant → Bool
refuses field heap domain one = refuses_by field one.memory one.usage heap domain

-- a field, with participants to whom it refuses a coherency domain of a heap
pub record PlaceRefusal : Type 0 where
  pub heap : HeapFacts
  pub domain : CoherencyDomain
  pub field : Field
  pub participants : List Participant

-- there are such participants, and the field refuses it to each of them
abbrev pub IsPlaceReason : PlaceRefusal → Type 0
IsPlaceReason r = AllOfSome (λ one. refuses r.field r.heap r.domain one ≡ true) r.participants

-- the field with these participants, if they are some
abbrev pub refused_to :
    HeapFacts → CoherencyDomain → Field → List Participant → Option PlaceRefusal
refused_to heap domain field [] = None
refused_to heap domain field (one ∷ others) = Some (record {
  heap = heap;
  domain = domain;
  field = field;
  participants = one ∷ others;
})

-- the field with all of the participants to whom it refuses the place, if they are some
abbrev pub place_reason :
    HeapFacts → CoherencyDomain → List Participant → Field → Option PlaceRefusal
place_reason heap domain participants field =
    refused_to heap domain field (filter (refuses field heap domain) participants)

-- each field that refuses the place, with all to whom it does
abbrev pub place_reasons : HeapFacts → CoherencyDomain → List Participant → List PlaceRefusal
place_reasons heap domain participants =
    filter_map (place_reason heap domain participants) place_fields

-- what is said against an offer of participants, who are all that there are if `whole` says so
pub record OfferRefusal : Type 0 where
  pub offer : Offer
  pub whole : Bool
  pub ground : OfferGround
  pub participants : List Participant

-- whether the participant has entries, and none for the offer
abbrev pub lacks_entry : Offer → Participant → Bool
lacks_entry offer one = not (has_format offer (offer_demand one))

-- whether the participant's entry for the offer doesn't take its colour space
abbrev pub lacks_colour : Offer → Participant → Bool
lacks_colour offer one = not (has_colour offer (offer_demand one))

-- whether the participant lacks this for the offer
abbrev pub lacks : Lack → Offer → Participant → Bool
lacks Entry offer one = lacks_entry offer one
lacks Colour offer one = lacks_colour offer one

-- the line of the conflict table is true of the participants together
abbrev pub IsTrueLine : Offer → Bool → List Participant → Field → Type 0
IsTrueLine offer whole participants field =
    IsRefusingLine whole offer (offer_demands participants) field

-- it is true of them: each lacks an entry for the offer; or the entry of each lacks its colour
-- space; or the line of the conflict table is true of all together
abbrev pub IsGround : Offer → Bool → List Participant → OfferGround → Type 0
IsGround offer whole participants NoEntry =
    AllOfSome (λ one. lacks_entry offer one ≡ true) participants
IsGround offer whole participants NoColour =
    AllOfSome (λ one. lacks_colour offer one ≡ true) participants
IsGround offer whole participants (Line field) = IsTrueLine offer whole participants field

-- what is said against the offer is true of the participants
abbrev pub IsOfferReason : OfferRefusal → Type 0
IsOfferReason r = IsGround r.offer r.whole r.participants r.ground

-- a ground with these participants, if they are some
abbrev pub said_of : Offer → Bool → OfferGround → List Participant → Option OfferRefusal
said_of offer whole ground [] = None
said_of offer whole ground (one ∷ others) = Some (record {
  offer = offer;
  whole = whole;
  ground = ground;
  participants = one ∷ others;
})

-- all who have entries and none for the offer, if they are some
abbrev pub no_entry : Offer → Bool → List Participant → Option OfferRefusal
no_entry offer whole participants =
    said_of offer whole NoEntry (filter (lacks_entry offer) participants)

-- all whose entry for the offer doesn't take its colour space, if they are some
abbrev pub no_colour : Offer → Bool → List Participant → Option OfferRefusal
no_colour offer whole participants =
    said_of offer whole NoColour (filter (lacks_colour offer) participants)

-- a line of the conflict table, with all participants
abbrev pub line_of : Offer → Bool → List Participant → Field → OfferRefusal
line_of offer whole participants field = record {
  offer = offer;
  whole = whole;
  ground = Line field;
  participants = participants;
}

-- those of the lines that are true of the participants, in their order, each with all of them
abbrev pub AreLines : Offer → Bool → List Participant → List Field → List OfferRefusal → Type 0
AreLines offer whole participants [] reasons = reasons ≡ []
AreLines offer whole participants (field ∷ fields) reasons =
    ((others : List OfferRefusal) × IsTrueLine offer whole participants field
    × (reasons ≡ line_of offer whole participants field ∷ others)
    × AreLines offer whole participants fields others)
    ⊎ ((¬ IsTrueLine offer whole participants field)
    × AreLines offer whole participants fields reasons)

-- the lines of the conflict table on the bounds and the size of an image, in its order
abbrev pub image_lines : List Field
image_lines = bounds_lines ++ MaxSizeBytes ∷ []

-- its lines on what nobody names
abbrev pub unnamed_lines : List Field
unnamed_lines = UnnamedPixelFormat ∷ UnnamedPixelFormatModifier ∷ UnnamedColorSpace ∷ []

-- the reasons are these, if there are any; else what is said of them
abbrev pub AreTheseOr : List OfferRefusal → List OfferRefusal → Type 0 → Type 0
AreTheseOr [] reasons Else = Else
AreTheseOr (these ∷ more) reasons Else = reasons ≡ these ∷ more

-- the lines on the image that are true of the participants; or where none is, what nobody names
pub record AreLineReasons (offer : Offer) (whole : Bool) (participants : List Participant)
    (reasons : List OfferRefusal) : Type 0 where
  pub lines : List OfferRefusal
  pub are_true : AreLines offer whole participants image_lines lines
  pub told : AreTheseOr lines reasons (AreLines offer whole participants unnamed_lines reasons)

-- the reasons against an offer: all who have no entry for it; or else all who lack its colour
-- space; or else the lines that are true of all
abbrev pub AreOfferReasons : Offer → Bool → List Participant → List OfferRefusal → Type 0
AreOfferReasons offer whole participants reasons =
    AreTheseOr (option_to_list (no_entry offer whole participants)) reasons
    (AreTheseOr (option_to_list (no_colour offer whole participants)) reasons
    (AreLineReasons offer whole participants reasons))

-- a line of the conflict table on the count, with what participants ask of it
pub record CountRefusal : Type 0 where
  pub field : Field
  pub counts : List CountConstraints

-- it is true of them
abbrev pub IsCountReason : CountRefusal → Type 0
IsCountReason r = IsCountLine r.field r.counts

-- a field in which settings fail a participant on a platform
pub record FailedField : Type 0 where
  pub platform : PlatformFacts
  pub settings : Settings
  pub participant : Participant
  pub field : Field

-- participants whom no settings of a platform meet
pub record Unmet : Type 0 where
  pub platform : PlatformFacts
  pub participants : List Participant

-- there are such participants, and no settings meet them, whatever others ask
pub record IsInTheWay (u : Unmet) : Type 0 where
  pub some : 0 < length u.participants
  pub unmet : IsUnmet false u.platform u.participants

-- they are in the way on this platform, and each of them is one of the participants
pub record IsAmong (facts : PlatformFacts) (participants : List Participant)
    (u : Unmet) : Type 0 where
  pub platform : u.platform ≡ facts
  pub each : All (Contains participants) u.participants

-- settings of the platform meet the participants, if these are at most as many as are asked
abbrev pub AreMet : ℕ → PlatformFacts → List Participant → Type 0
AreMet most platform participants =
    length participants ≤ most → (s : Settings) × MeetsAs false platform participants s

-- those are some of the participants, and no settings meet them, whatever others ask
pub record AreInTheWay (platform : PlatformFacts)
    (participants those : List NamedParticipant) : Type 0 where
  pub some : 0 < length those
  pub unmet : IsUnmet false platform (all_asked those)
  pub among : All (Contains participants) those

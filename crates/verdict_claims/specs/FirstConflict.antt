-- Which conflict a finder gives: count before places before offers, and of each place and each
-- offer the first line that is true.
use Rattle.std.specs.Prelude.{◌≡◌, ℕ, Bool, List, [], ◌∷◌, ◌++◌, Option, Some, None, All, IfSome}
use Rattle.std.specs.Prelude.{IsSomeAnd, is_none, slice_get, take}
use Rattle.std.specs.List.{AllZip}
use Rattle.sysmem_counts.specs.Counts.{IsCounted, IsFixedCountLine}
use Rattle.sysmem_counts.specs.declared.field.Field.{Field}
use Rattle.sysmem_counts.specs.declared.field.Field.TheVariants.{MinBufferCount, MaxBufferCount}
use Rattle.sysmem_formats.specs.declared.colour_space.ColourSpace.{ColourSpace}
use Rattle.sysmem_formats.specs.declared.offer.Offer.{Offer}
use Rattle.sysmem_formats.specs.declared.offer.Offer.TheVariants.{Image}
use Rattle.sysmem_formats.specs.declared.offer.Pair.{Pair}
use Rattle.sysmem_memory.specs.Listed.{HeapPlace, places_of}
use Rattle.sysmem_memory.specs.PlaceTable.{AllowsPlace, first_refusing}
use Rattle.sysmem_merge.specs.declared.reason.Reason.TheVariants as reasons
use Rattle.offer_fits.specs.Demands.{counts_asked, offer_demands}
use Rattle.sysmem_merge.specs.Failing.{IsFirstUncovered}
use Rattle.sysmem_merge.specs.First.{IsFirstOf}
use Rattle.sysmem_merge.specs.OfferRead.{IsRefusingLine, offer_lines}
use Rattle.sysmem_merge.specs.Reasons.{IsFirstReason}
use Rattle.sysmem_merge.specs.Settings.{CoversOn}
use Rattle.negotiation_inputs.specs.Participant.{Participant}
use Rattle.negotiation_inputs.specs.Platform.{PlatformFacts, offers_of}
use Rattle.sysmem_tree.specs.Forest.{Forest, choices, settled}
use Rattle.sysmem_tree.specs.Shape.{Member}
use Rattle.verdict_claims.specs.declared.conflict.Conflict.{Conflict}
use Rattle.verdict_claims.specs.declared.conflict.Conflict.TheVariants.{Count, Places, Offers}
use Rattle.verdict_claims.specs.declared.conflict.Conflict.TheVariants.{Fixed}
use Rattle.verdict_claims.specs.Base.{Terms}
use Rattle.verdict_claims.specs.Conflict.{RefusesOffer, RefusesPlace}
use Rattle.verdict_claims.specs.Line.{LineFacts}
use Rattle.verdict_claims.specs.Members.{participants}

-- at the path stands the first of some members who says this, and who stand before
-- him have a property, or ask nothing
pub record IsFirstWithout (Has Says : Participant → Type 0) (ms : List Member)
    (path : List ℕ) : Type 0 where
  pub index : ℕ
  pub first : Member
  pub here : slice_get ms index ≡ Some first
  pub at : first.path ≡ path
  pub before : All (λ m. IfSome m.constraints Has) (take index ms)
  pub says : IsSomeAnd first.constraints Says

-- the field is the first that refuses the place, to the first
-- participant at all to whom it is refused
abbrev pub IsFirstRefused : HeapPlace → List Member → Field → List ℕ → Type 0
IsFirstRefused p ms field path =
    IsFirstWithout (λ one. AllowsPlace one.memory one.usage p.heap p.place.coherency)
    (λ one. first_refusing one.memory one.usage p.heap p.place.coherency ≡ Some field) ms path

-- the line refuses the place, and names the first participant to whom it is refused, and nobody
-- else, by the first field that does it
pub record IsPlaceLineGiven (ms : List Member) (p : HeapPlace) (line : LineFacts) : Type 0 where
  pub refuses : RefusesPlace ms p line
  pub path : List ℕ
  pub alone : line.nodes ≡ path ∷ []
  pub first : IsFirstRefused p ms line.field path

-- two offers are images of one pair, each in a colour space of its own
pub record AreOfPair (one other : Offer) : Type 0 where
  pub pair : Pair
  pub colour : ColourSpace
  pub own : ColourSpace
  pub first : one ≡ Image pair colour
  pub second : other ≡ Image pair own

-- the line refuses the offer, and is the first of the table that is true of the participants for it
pub record IsOfferLineGiven (whole : Bool) (ms : List Member) (o : Offer)
    (line : LineFacts) : Type 0 where
  pub refuses : RefusesOffer whole ms o line
  pub first : IsFirstOf (IsRefusingLine whole o (offer_demands (participants ms))) offer_lines
      line.field

-- of an initial domain: a line of the count, the maximum's before the limit's; without one a line
-- for each place; without these one for each offer
abbrev pub IsFirstConflict : PlatformFacts → Forest Member → Conflict → Type 0
IsFirstConflict platform d (Count line) = IsFirstReason (is_none (choices d)) platform
    (participants (settled d)) (reasons.Count line.field)
IsFirstConflict platform d (Places lines) =
    IsFirstReason (is_none (choices d)) platform (participants (settled d)) reasons.NoPlace
    × AllZip (IsPlaceLineGiven (settled d)) (places_of platform.heaps) lines
IsFirstConflict platform d (Offers lines) =
    IsFirstReason (is_none (choices d)) platform (participants (settled d)) reasons.NoOffer
    × AllZip (IsOfferLineGiven (is_none (choices d)) (settled d)) (offers_of platform) lines
IsFirstConflict platform d (Fixed field node) = ⊥

-- of an attached domain: a line of the count, too few before too many; without one the first
-- participant whom the settings fail, with the first field in which they do
abbrev pub IsFirstFixedConflict : PlatformFacts → Terms → Forest Member → Conflict → Type 0
IsFirstFixedConflict platform terms d (Count line) =
    IsFirstOf
    (λ field. IsFixedCountLine terms.settings.count field
    (counts_asked (participants (terms.accepted ++ settled d))))
    (MinBufferCount ∷ MaxBufferCount ∷ []) line.field
IsFirstFixedConflict platform terms d (Fixed field node) =
    IsCounted (counts_asked (participants (terms.accepted ++ settled d))) terms.settings.count
    × IsFirstWithout (CoversOn platform terms.settings)
    (IsFirstUncovered field platform terms.settings) (settled d) node
IsFirstFixedConflict platform terms d (Places lines) = ⊥
IsFirstFixedConflict platform terms d (Offers lines) = ⊥

-- of both kinds of domain
abbrev pub IsFirstConflictFor : PlatformFacts → Option Terms → Forest Member → Conflict → Type 0
IsFirstConflictFor platform None = IsFirstConflict platform
IsFirstConflictFor platform (Some terms) = IsFirstFixedConflict platform terms

-- What is true of settings, whoever works them out.
use Rattle.std.specs.Prelude.{◌≡◌, ◌≤◌, List, All, Bool, false, IsPermutation}
use Rattle.list_lemmas.specs.Some.{AreSomeOf}
use Rattle.sysmem_counts.specs.Counts.{IsCountLine}
use Rattle.sysmem_counts.specs.declared.field.Field.{Field}
use Rattle.sysmem_counts.specs.declared.field.Field.TheVariants.{MaxSizeBytes}
use Rattle.sysmem_image.specs.Lines.{KeepsCorner}
use Rattle.sysmem_memory.specs.Heap.{HeapFacts}
use Rattle.sysmem_memory.specs.Place.{IsPlace}
use Rattle.sysmem_memory.specs.PlaceTable.{IsPlaceLine}
use Rattle.sysmem_merge.specs.declared.reason.Reason.{Reason}
use Rattle.sysmem_merge.specs.declared.settings.Settings.{Settings}
use Rattle.sysmem_merge.specs.Best.{IsBest, IsUnmet}
use Rattle.offer_fits.specs.declared.fit.Fit.{Fit}
use Rattle.sysmem_merge.specs.Fit.{IsSoundFit, IsNoBetterFit}
use Rattle.sysmem_merge.specs.Demands.{OfferDemand, counts_asked, place_demands, offer_demands}
use Rattle.sysmem_merge.specs.Offers.{bounds_asked}
use Rattle.sysmem_merge.specs.Aggregate.{StandsFor}
use Rattle.sysmem_merge.specs.Kept.{Kept}
use Rattle.sysmem_merge.specs.Reasons.{IsOfferLine, IsUnnamedLine, IsReason}
use Rattle.sysmem_merge.specs.Settings.{Meets, MeetsLoosely, MeetsAs}
use Rattle.negotiation_inputs.specs.Participant.{Participant}
use Rattle.negotiation_inputs.specs.Platform.{PlatformFacts}

-- participants have at most one best settings
abbrev pub OneBest : Type 0
OneBest = (whole : Bool) (platform : PlatformFacts) (ps : List Participant) (a b : Settings)
    → IsBest whole platform ps a → IsBest whole platform ps b → a ≡ b

-- two fits of one offer, neither of which is better, are one
abbrev pub OneFit : Type 0
OneFit = (a b : Fit) → a.offer ≡ b.offer → IsNoBetterFit a b → IsNoBetterFit b a → a ≡ b

-- a reason that is true of participants leaves them no settings
abbrev pub ReasonLeavesNone : Type 0
ReasonLeavesNone = (whole : Bool) (platform : PlatformFacts) (ps : List Participant)
    (reason : Reason) → IsReason whole platform ps reason → IsUnmet whole platform ps

-- nor does it leave any to more participants, whatever their order, if it
-- doesn't rest on what none of them names
abbrev pub ReasonOfSomeLeavesNone : Type 0
ReasonOfSomeLeavesNone = (whole : Bool) (platform : PlatformFacts) (some all : List Participant)
    (reason : Reason) → AreSomeOf some all → IsReason false platform some reason
    → IsUnmet whole platform all

-- a line that is true of some of the participants for an offer leaves no
-- settings with that offer to all of them
abbrev pub OfferLineLeavesNone : Type 0
OfferLineLeavesNone = (whole : Bool) (platform : PlatformFacts) (some all : List Participant)
    (field : Field) (t : Settings) → AreSomeOf some all
    → IsOfferLine field t.offer (offer_demands some) → ¬ (MeetsAs whole platform all t)

-- a place that a field refuses to one of some of the participants is the
-- place of no settings for all of them
abbrev pub PlaceLineLeavesNone : Type 0
PlaceLineLeavesNone = (whole : Bool) (platform : PlatformFacts) (some all : List Participant)
    (field : Field) (heap : HeapFacts) (t : Settings) → AreSomeOf some all
    → IsPlace platform.heaps t.place heap
    → IsPlaceLine field heap t.place.coherency (place_demands some)
    → ¬ (MeetsAs whole platform all t)

-- a count line that is true of some of the participants leaves no settings to all of them
abbrev pub CountLineLeavesNone : Type 0
CountLineLeavesNone = (whole : Bool) (platform : PlatformFacts) (some all : List Participant)
    (field : Field) → AreSomeOf some all → IsCountLine field (counts_asked some)
    → IsUnmet whole platform all

-- settings that meet participants meet some of them, but for the names
abbrev pub SomeAreMet : Type 0
SomeAreMet = (platform : PlatformFacts) (some all : List Participant) (t : Settings)
    → AreSomeOf some all → MeetsLoosely platform all t → MeetsLoosely platform some t

-- where no settings meet some of the participants, whatever is named, none meet all of them
abbrev pub UnmetBySome : Type 0
UnmetBySome = (whole : Bool) (platform : PlatformFacts) (some all : List Participant)
    → AreSomeOf some all → IsUnmet false platform some → IsUnmet whole platform all

-- what none of the participants names leaves no settings with that offer to them
abbrev pub UnnamedLineLeavesNone : Type 0
UnnamedLineLeavesNone = (platform : PlatformFacts) (ps : List Participant) (field : Field)
    (t : Settings) → IsUnnamedLine field t.offer (offer_demands ps) → ¬ (Meets platform ps t)

-- what stands for participants stands for them in any order
abbrev pub StandsInAnyOrder : Type 0
StandsInAnyOrder = (kept : Kept) (platform : PlatformFacts) (ps qs : List Participant)
    → IsPermutation ps qs → StandsFor kept platform ps → StandsFor kept platform qs

-- the size's line that is true of participants leaves them no size, with bounds that keep to
-- theirs in the fields that it reads
abbrev pub SizeLineHolds : Type 0
SizeLineHolds = (t : Fit) (ds : List OfferDemand) → IsOfferLine MaxSizeBytes t.offer ds
    → IsSoundFit t → All (KeepsCorner t.bounds) (bounds_asked t.offer ds)
    → All (λ d. d.min_size_bytes ≤ t.size_bytes) ds → All (λ d. t.size_bytes ≤ d.max_size_bytes) ds
    → ⊥

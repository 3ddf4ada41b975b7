-- When settings meet participants. Settings in a definition are any numbers,
-- so what fits their types is said.
use Rattle.std.specs.Prelude.{◌≡◌, List, All, Bool, true, false, Some, Contains, slice_get}
use Rattle.sysmem_counts.specs.Counts.{IsCounted}
use Rattle.sysmem_formats.specs.declared.offer.Offer.{Offer}
use Rattle.sysmem_memory.specs.Heap.{HeapFacts}
use Rattle.sysmem_memory.specs.Place.{IsPlace}
use Rattle.sysmem_memory.specs.PlaceTable.{AllowsPlace}
use Rattle.sysmem_merge.specs.declared.settings.Settings.{Settings}
use Rattle.sysmem_merge.specs.Demands.{counts_asked, offer_demand, offer_demands}
use Rattle.sysmem_merge.specs.Fit.{fit_of, IsSoundFit, CoversFit}
use Rattle.sysmem_merge.specs.Offers.{is_named}
use Rattle.negotiation_inputs.specs.Participant.{Participant}
use Rattle.negotiation_inputs.specs.Platform.{PlatformFacts, offers_of}

-- settings that the platform can provide: its offer, one of its places, in this heap, and a size
-- that holds an image which the bounds admit and which is as large as they ask for
pub record IsSound (platform : PlatformFacts) (heap : HeapFacts) (s : Settings) : Type 0 where
  pub offer : Contains (offers_of platform) s.offer
  pub place : IsPlace platform.heaps s.place heap
  pub fit : IsSoundFit (fit_of s)

-- settings that one participant accepts: what they say of images, and their place
pub record Covers (heap : HeapFacts) (s : Settings) (p : Participant) : Type 0 where
  pub fit : CoversFit (fit_of s) (offer_demand p)
  pub place : AllowsPlace p.memory p.usage heap s.place.coherency

-- settings that one participant accepts in their heap of the platform
pub record CoversOn (platform : PlatformFacts) (s : Settings) (p : Participant) : Type 0 where
  pub heap : HeapFacts
  pub has : slice_get platform.heaps s.place.heap ≡ Some heap
  pub covers : Covers heap s p

-- no image needs no name: an image's format, modifier and colour space each
-- need a participant that names it
abbrev pub IsNamed : Offer → List Participant → Type 0
IsNamed o ps = is_named o (offer_demands ps) ≡ true

-- settings that meet all of these participants, but for the names of the image
pub record MeetsLoosely (platform : PlatformFacts) (ps : List Participant)
    (s : Settings) : Type 0 where
  pub heap : HeapFacts
  pub sound : IsSound platform heap s
  pub covers : All (Covers heap s) ps
  pub counted : IsCounted (counts_asked ps) s.count

-- settings that meet all of these participants
pub record Meets (platform : PlatformFacts) (ps : List Participant) (s : Settings) : Type 0 where
  pub loosely : MeetsLoosely platform ps s
  pub named : IsNamed s.offer ps

-- whole: the participants are all that a decision has, so that each part of the image's
-- name has to be named by some of them
abbrev pub MeetsAs : Bool → PlatformFacts → List Participant → Settings → Type 0
MeetsAs true = Meets
MeetsAs false = MeetsLoosely

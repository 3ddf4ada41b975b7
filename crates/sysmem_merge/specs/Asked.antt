-- What is known of participants before each pair was looked at.
use Rattle.std.specs.Prelude.{◌∷◌, [], ℕ, List, Bool, All}
use Rattle.negotiation_inputs.specs.Participant.{Participant}
use Rattle.negotiation_inputs.specs.Platform.{PlatformFacts}
use Rattle.offer_fits.specs.declared.fit.Fit.{Fit}
use Rattle.sysmem_counts.specs.Counts.{IsCounted}
use Rattle.sysmem_formats.specs.declared.offer.Offer.TheVariants.{NoImage}
use Rattle.sysmem_memory.specs.declared.place.Place.{Place}
use Rattle.sysmem_memory.specs.Heap.{HeapFacts}
use Rattle.sysmem_memory.specs.Place.{IsPlace}
use Rattle.sysmem_memory.specs.PlaceTable.{AllowsPlace}
use Rattle.sysmem_merge.specs.Best.{IsBest, IsUnmet}
use Rattle.sysmem_merge.specs.declared.asked.Asked.{Asked}
use Rattle.sysmem_merge.specs.declared.asked.Asked.TheVariants.{Met, Unmet, Open}
use Rattle.sysmem_merge.specs.declared.settings.Settings.{Settings}
use Rattle.sysmem_merge.specs.Demands.{counts_asked, place_demands}
use Rattle.sysmem_merge.specs.Reasons.{IsFirstReason}
use Rattle.sysmem_merge.specs.Sum.{HasNone, HasNoImage}

-- some number of buffers suits these participants, and nobody refuses some place of the platform
pub record HasCountAndPlace (platform : PlatformFacts) (ps : List Participant) : Type 0 where
  pub number : ℕ
  pub counted : IsCounted (counts_asked ps) number
  pub place : Place
  pub heap : HeapFacts
  pub there : IsPlace platform.heaps place heap
  pub allowed : All (λ d. AllowsPlace d.memory d.usage heap place.coherency) (place_demands ps)

-- a number and a place suit them, but no settings without an image or with one of the first n pairs
pub record IsOpenFrom (n : ℕ) (whole : Bool) (platform : PlatformFacts)
    (ps : List Participant) : Type 0 where
  pub both : HasCountAndPlace platform ps
  pub no_image : HasNone (NoImage ∷ []) whole platform ps
  pub before : HasNoImage n whole platform ps

-- what is told of the participants is true of them
abbrev pub IsAskedOf : Bool → PlatformFacts → List Participant → Asked → Type 0
IsAskedOf whole platform ps (Met s) = IsBest whole platform ps s
IsAskedOf whole platform ps (Unmet reason) =
    IsUnmet whole platform ps × IsFirstReason whole platform ps reason
IsAskedOf whole platform ps (Open n) = IsOpenFrom n whole platform ps

-- settings of a fit, in a place and of so many buffers
abbrev pub settings_of : Fit → Place → ℕ → Settings
settings_of fit place count = record {
  offer = fit.offer;
  place = place;
  count = count;
  size_bytes = fit.size_bytes;
  bounds = fit.bounds;
}

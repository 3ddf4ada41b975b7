-- Which settings are best for participants.
use Rattle.std.specs.Prelude.{◌≡◌, ℕ, ◌<◌, ◌≤◌, List, Bool, Some, slice_get}
use Rattle.sysmem_formats.specs.declared.offer.Offer.{Offer}
use Rattle.sysmem_memory.specs.Place.{IsEarlier}
use Rattle.sysmem_merge.specs.declared.settings.Settings.{Settings}
use Rattle.sysmem_merge.specs.Fit.{fit_of, IsNoBetterFit}
use Rattle.sysmem_merge.specs.Settings.{MeetsAs}
use Rattle.negotiation_inputs.specs.Participant.{Participant}
use Rattle.negotiation_inputs.specs.Platform.{PlatformFacts, offers_of}

-- the list has a before each place where it has b
pub record IsEarlierOffer (offers : List Offer) (a b : Offer) : Type 0 where
  pub index : ℕ
  pub here : slice_get offers index ≡ Some a
  pub before : (k : ℕ) → slice_get offers k ≡ Some b → index < k

-- t is no better than s: no earlier offer, with the same offer no earlier place, no smaller count,
-- and with the same offer in the same place no smaller size and no bounds that ask for less
pub record IsNoBetter (platform : PlatformFacts) (t s : Settings) : Type 0 where
  pub offer : ¬ (IsEarlierOffer (offers_of platform) t.offer s.offer)
  pub place : t.offer ≡ s.offer → ¬ (IsEarlier t.place s.place)
  pub count : s.count ≤ t.count
  pub fit : t.offer ≡ s.offer → t.place ≡ s.place → IsNoBetterFit (fit_of t) (fit_of s)

-- settings that meet these participants, and than which no others that do are better
pub record IsBest (whole : Bool) (platform : PlatformFacts) (ps : List Participant)
    (s : Settings) : Type 0 where
  pub meets : MeetsAs whole platform ps s
  pub best : (t : Settings) → MeetsAs whole platform ps t → IsNoBetter platform t s

-- no settings meet these participants
abbrev pub IsUnmet : Bool → PlatformFacts → List Participant → Type 0
IsUnmet whole platform ps = (t : Settings) → ¬ (MeetsAs whole platform ps t)

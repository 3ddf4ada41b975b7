-- Why structs have no settings.
use Rattle.flat_negotiation.specs.declared.negotiating.TheConstants.{MOST_PARTICIPANTS}
use Rattle.std.specs.Prelude.{◌<◌, List, length, true, IsSomeAnd, slice_get}
use Rattle.std.specs.List.{AllZip}
use Rattle.negotiation_inputs.specs.Participant.{Participant}
use Rattle.negotiation_inputs.specs.Platform.{PlatformFacts}
use Rattle.sysmem_merge.specs.Best.{IsBest}
use Rattle.sysmem_merge.specs.declared.settings.Settings.{Settings}
use Rattle.flat_negotiation.specs.declared.parts.flat.FlatParticipant.{FlatParticipant}
use Rattle.flat_negotiation.specs.declared.parts.flat.FlatPlatform.{FlatPlatform}
use Rattle.flat_negotiation.specs.declared.unsettled.Refusal.{Refusal}
use Rattle.flat_negotiation.specs.declared.unsettled.Unsettled.{Unsettled}
use Rattle.flat_negotiation.specs.declared.unsettled.Unsettled.TheVariants as why
use Rattle.flat_negotiation.specs.Blame.{IsBlamed}
use Rattle.flat_negotiation.specs.Said.{IsParticipantAmiss, IsParticipantSaid}
use Rattle.flat_negotiation.specs.Said.{IsPlatformAmiss, IsPlatformSaid}

-- where memory wasn't refused, the struct of a participant is amiss
abbrev pub IsStructAmiss : List FlatParticipant → Unsettled → Type 0
IsStructAmiss flats why.NoMemory = Unit {0}
IsStructAmiss flats (why.Participant who amiss) =
    IsSomeAnd (slice_get flats who) (λ flat. IsParticipantAmiss flat amiss)
IsStructAmiss flats _ = ⊥

-- where memory wasn't refused, participants on a platform have no settings
abbrev pub AreUnmet : PlatformFacts → List Participant → Unsettled → Type 0
AreUnmet platform ps why.NoMemory = Unit {0}
AreUnmet platform ps (why.Unmet refusal) = IsBlamed platform ps refusal
AreUnmet platform ps _ = ⊥

-- the structs state a platform and participants
pub record AreSaid (flat : FlatPlatform) (flats : List FlatParticipant) (on : PlatformFacts)
    (ps : List Participant) : Type 0 where
  pub platform : IsPlatformSaid flat on
  pub participants : AllZip IsParticipantSaid flats ps

-- they are the best for what the structs state
pub record AreSettled (flat : FlatPlatform) (flats : List FlatParticipant)
    (s : Settings) : Type 0 where
  pub platform : PlatformFacts
  pub participants : List Participant
  pub said : AreSaid flat flats platform participants
  pub best : IsBest true platform participants s

-- no settings meet what the structs state
pub record AreRefused (flat : FlatPlatform) (flats : List FlatParticipant)
    (refusal : Refusal) : Type 0 where
  pub platform : PlatformFacts
  pub participants : List Participant
  pub said : AreSaid flat flats platform participants
  pub blamed : IsBlamed platform participants refusal

-- why there are no settings, where memory wasn't refused
abbrev pub AreUnsettled : FlatPlatform → List FlatParticipant → Unsettled → Type 0
AreUnsettled flat flats why.NoMemory = Unit {0}
AreUnsettled flat flats why.TooMany = MOST_PARTICIPANTS < length flats
AreUnsettled flat flats (why.Platform amiss) = IsPlatformAmiss flat amiss
AreUnsettled flat flats (why.Participant who amiss) =
    IsSomeAnd (slice_get flats who) (λ p. IsParticipantAmiss p amiss)
AreUnsettled flat flats (why.Unmet refusal) = AreRefused flat flats refusal

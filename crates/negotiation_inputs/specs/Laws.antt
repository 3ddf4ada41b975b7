-- The laws of participants and platforms.
use Rattle.std.specs.Prelude.{◌≡◌, ◌↔◌, true}
use Rattle.negotiation_inputs.specs.Equal.{same_participant, same_platform}
use Rattle.negotiation_inputs.specs.Participant.{Participant}
use Rattle.negotiation_inputs.specs.Platform.{PlatformFacts}

-- participants compare equal exactly where all that they ask is equal
abbrev pub SameParticipantIsEqual : Type 0
SameParticipantIsEqual = (a b : Participant) → (same_participant a b ≡ true) ↔ (a ≡ b)

-- platforms compare equal exactly where all that they have is equal
abbrev pub SamePlatformIsEqual : Type 0
SamePlatformIsEqual = (a b : PlatformFacts) → (same_platform a b ≡ true) ↔ (a ≡ b)

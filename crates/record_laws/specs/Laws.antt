-- The laws that join participants and platforms to their records.
use Rattle.std.specs.Prelude.{◌≡◌, ◌⊎◌, Some, Result, Ok, Err}
use Rattle.serde_json.specs.Data.{Data}
use Rattle.sysmem_counts.specs.declared.field.Field.{Field}
use Rattle.record_reading.specs.declared.fault.Code.TheVariants.{WantOfMemory}
use Rattle.record_reading.specs.declared.fault.Fault.{Fault}
use Rattle.record_reading.specs.Faults.{wrong}
use Rattle.negotiation_inputs.specs.Participant.{Participant, IsParticipant}
use Rattle.negotiation_inputs.specs.Platform.{PlatformFacts, IsPlatform}
use Rattle.record_reading.specs.Reading.{participant_of, participant_with}
use Rattle.record_reading.specs.Reading.{platform_of, platform_with}
use Rattle.record_laws.specs.Ranges.{IsParticipantInRange, IsPlatformInRange}
use Rattle.record_laws.specs.Records.{participant_record, platform_record}
use Rattle.record_laws.specs.Sparse.{participant_written, platform_written}

-- all that a participant may ask can be stated: its record is taken, and states it
abbrev pub EachParticipantIsStated : Type 0
EachParticipantIsStated = (p : Participant) → IsParticipant p.usage p.memory p.entries
    → IsParticipantInRange p → participant_of (participant_record p) ≡ Ok p

-- all that a platform may have can be stated: its record is taken, and states it
abbrev pub EachPlatformIsStated : Type 0
EachPlatformIsStated = (p : PlatformFacts) → IsPlatform p.heaps p.pairs p.colours
    → IsPlatformInRange p → platform_of (platform_record p) ≡ Ok p

-- what is written of a participant is read as the participant
abbrev pub WrittenParticipantIsRead : Type 0
WrittenParticipantIsRead = (p : Participant) → IsParticipant p.usage p.memory p.entries
    → IsParticipantInRange p → participant_of (participant_written p) ≡ Ok p

-- what is written of a platform is read as the platform
abbrev pub WrittenPlatformIsRead : Type 0
WrittenPlatformIsRead = (p : PlatformFacts) → IsPlatform p.heaps p.pairs p.colours
    → IsPlatformInRange p → platform_of (platform_written p) ≡ Ok p

-- the answer is the same as with enough memory, or that memory was refused for the field
abbrev pub IsOrWants : {A : Type 0} → Field → Result A Fault → Result A Fault → Type 0
IsOrWants lack answer full = (answer ≡ full) ⊎ (answer ≡ Err (wrong WantOfMemory lack))

-- where memory for one field is refused, a participant's record says what it says with
-- enough, or that this field wants it
abbrev pub ParticipantOrWants : Type 0
ParticipantOrWants = (lack : Field) (d : Data)
    → IsOrWants lack (participant_with (Some lack) d) (participant_of d)

-- the same of a platform's record
abbrev pub PlatformOrWants : Type 0
PlatformOrWants = (lack : Field) (d : Data)
    → IsOrWants lack (platform_with (Some lack) d) (platform_of d)

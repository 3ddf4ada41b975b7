-- How the calls end that read what an allocator or a participant states.
use Rattle.std.specs.Prelude.{◌≡◌, Option, Some, ℕ}
use Rattle.flat_negotiation.specs.Refusals.{flat_refusal}
use Rattle.flat_negotiation.specs.Said.{IsParticipantAmiss, IsParticipantSaid}
use Rattle.flat_negotiation.specs.Said.{IsPlatformAmiss, IsPlatformSaid}
use Rattle.flat_negotiation.specs.declared.flat.FlatRefusal.{FlatRefusal}
use Rattle.flat_negotiation.specs.declared.parts.unsaid.Amiss.{Amiss}
use Rattle.flat_negotiation.specs.declared.parts.flat.FlatParticipant.{FlatParticipant}
use Rattle.flat_negotiation.specs.declared.parts.flat.FlatPlatform.{FlatPlatform}
use Rattle.flat_negotiation.specs.declared.parts.unsaid.Unsaid.{Unsaid}
use Rattle.flat_negotiation.specs.declared.parts.unsaid.Unsaid.TheVariants.{NoMemory, Misstated}
use Rattle.flat_negotiation.specs.declared.unsettled.Unsettled.{Unsettled}
use Rattle.flat_negotiation.specs.declared.unsettled.Unsettled.TheVariants as unsettled
use Rattle.live_book.specs.declared.object.Object.{Object}
use Rattle.live_book.specs.declared.object.Object.TheVariants.{Platform}
use Rattle.live_calls.specs.Behind.{constraints_in}
use Rattle.negotiation_inputs.specs.Participant.{Participant}
use Rattle.negotiation_inputs.specs.Platform.{PlatformFacts}

-- why structs state nothing is told: what is amiss, or that memory was refused
abbrev pub TellsUnsaid : (Amiss → Unsettled) → Unsaid → FlatRefusal → FlatRefusal → ℕ → Type 0
TellsUnsaid told NoMemory before after status = (status ≡ 4) × (after ≡ before)
TellsUnsaid told (Misstated amiss) before after status =
    (status ≡ 3) × (after ≡ flat_refusal before.struct_size (told amiss))

-- the platform that structs state comes behind a handle, or why they state none
pub data PutsPlatform (flat : FlatPlatform) (old new : Option Object)
    (before after : FlatRefusal) : ℕ → Type 0 where
  puts_platform : (p : PlatformFacts) → IsPlatformSaid flat p → new ≡ Some (Platform p) → after ≡ before
      → PutsPlatform flat old new before after 0
  refuses_platform : (amiss : Amiss) → IsPlatformAmiss flat amiss → new ≡ old
      → after ≡ flat_refusal before.struct_size (unsettled.Platform amiss)
      → PutsPlatform flat old new before after 3
  platform_starves : new ≡ old → after ≡ before → PutsPlatform flat old new before after 4

-- the same of the constraints that a struct states
pub data PutsConstraints (flat : FlatParticipant) (old new : Option Object)
    (before after : FlatRefusal) : ℕ → Type 0 where
  puts_constraints : (p : Participant) → IsParticipantSaid flat p → constraints_in new ≡ Some p
      → after ≡ before → PutsConstraints flat old new before after 0
  refuses_constraints : (amiss : Amiss) → IsParticipantAmiss flat amiss → new ≡ old
      → after ≡ flat_refusal before.struct_size (unsettled.Participant 0 amiss)
      → PutsConstraints flat old new before after 3
  constraints_starve : new ≡ old → after ≡ before → PutsConstraints flat old new before after 4

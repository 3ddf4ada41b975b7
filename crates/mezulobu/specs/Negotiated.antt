-- How a negotiation of structs ends.
use Rattle.std.specs.Prelude.{◌≡◌, ℕ, List}
use Rattle.sysmem_merge.specs.declared.settings.Settings.{Settings}
use Rattle.flat_negotiation.specs.declared.parts.flat.FlatParticipant.{FlatParticipant}
use Rattle.flat_negotiation.specs.declared.parts.flat.FlatPlatform.{FlatPlatform}
use Rattle.flat_negotiation.specs.declared.flat.FlatRefusal.{FlatRefusal}
use Rattle.flat_negotiation.specs.declared.flat.FlatSettings.{FlatSettings}
use Rattle.flat_negotiation.specs.declared.unsettled.Unsettled.{Unsettled}
use Rattle.flat_negotiation.specs.declared.unsettled.Unsettled.TheVariants.{NoMemory, TooMany, Platform, Participant}
use Rattle.flat_negotiation.specs.declared.unsettled.Unsettled.TheVariants.{Unmet}
use Rattle.flat_negotiation.specs.Refusals.{flat_refusal}
use Rattle.flat_negotiation.specs.Unsettled.{AreSettled, AreUnsettled}
use Rattle.flat_negotiation.specs.Written.{IsWritten}

-- the status of why there are no settings: nobody can have any (6), memory was refused (4), or a
-- struct is amiss (3)
abbrev pub status_of : Unsettled → ℕ
status_of NoMemory = 4
status_of TooMany = 3
status_of (Platform amiss) = 3
status_of (Participant who amiss) = 3
status_of (Unmet refusal) = 6

-- the best settings are told (0), and the refusal stays as it was; or the settings stay, and the
-- refusal and the status say why there are none
pub data Negotiates (platform : FlatPlatform) (participants : List FlatParticipant)
    (settings told : FlatSettings) (refusal why : FlatRefusal) : ℕ → Type 0 where
  settles : (s : Settings) → AreSettled platform participants s
      → IsWritten settings.struct_size s told → why ≡ refusal
      → Negotiates platform participants settings told refusal why 0
  refuses_them : (unsettled : Unsettled) → AreUnsettled platform participants unsettled
      → why ≡ flat_refusal refusal.struct_size unsettled → told ≡ settings
      → Negotiates platform participants settings told refusal why (status_of unsettled)

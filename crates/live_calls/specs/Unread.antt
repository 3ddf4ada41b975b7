-- What came of reading a record.
use Rattle.std.specs.Prelude.{◌≡◌, ℕ, List, Result, Ok, Err}
use Rattle.live_calls.specs.declared.reading.Unread.{Unread}
use Rattle.live_calls.specs.declared.reading.Unread.TheVariants.{Faulty, NoJson, NoMemory}
use Rattle.live_calls.specs.Numbers.{code_number}
use Rattle.live_calls.specs.Reading.{Spells}
use Rattle.record_reading.specs.declared.fault.Fault.{Fault}
use Rattle.serde_json.specs.Data.{Data}

-- the value that bytes spell states this
abbrev pub IsRead : {A : Type 0} → (Data → Result A Fault) → List ℕ → A → Type 0
IsRead stated bytes a = (value : Data) × (Spells bytes value × (stated value ≡ Ok a))

-- why bytes state nothing, where memory wasn't refused
abbrev pub IsUnread : {A : Type 0} → (Data → Result A Fault) → List ℕ → Unread → Type 0
IsUnread stated bytes NoMemory = Unit {0}
IsUnread stated bytes NoJson = (value : Data) → ¬ Spells bytes value
IsUnread stated bytes (Faulty fault) =
    (value : Data) × (Spells bytes value × (stated value ≡ Err fault))

-- it is told: a number, or that memory was refused
abbrev pub TellsUnread : Unread → ℕ → ℕ → ℕ → Type 0
TellsUnread NoMemory before after status = (status ≡ 4) × (after ≡ before)
TellsUnread NoJson before after status = (status ≡ 3) × (after ≡ 0)
TellsUnread (Faulty fault) before after status =
    (status ≡ 3) × (after ≡ code_number fault.code)

-- How the calls end that read what an allocator or a participant states as a record.
use Rattle.std.specs.Prelude.{◌≡◌, ℕ, List, Option, Some, Result, Ok, Err, IsUtf8}
use Rattle.live_book.specs.declared.object.Object.{Object}
use Rattle.live_book.specs.declared.object.Object.TheVariants.{Platform}
use Rattle.live_calls.specs.Behind.{constraints_in}
use Rattle.live_calls.specs.Numbers.{code_number}
use Rattle.record_reading.specs.Reading.{participant_of, platform_of}
use Rattle.record_reading.specs.declared.fault.Fault.{Fault}
use Rattle.serde_json.specs.Data.{Data}
use Rattle.serde_json.specs.Read.{read}

-- bytes are one JSON value
pub record Spells (bytes : List ℕ) (value : Data) : Type 0 where
  pub text : IsUtf8 bytes
  pub spelled : read bytes ≡ Some value

-- what the value of a record states comes behind a handle (0); or it has a first fault, whose number
-- is told, or the bytes are no JSON, which 0 tells (3); or memory is refused (4). Then what lay
-- there stays.
pub data Reads {A : Type 0} (stated : Data → Result A Fault) (IsPut : A → Type 0)
    (bytes : List ℕ) (old new : Option Object) (before after : ℕ) : ℕ → Type 0 where
  reads : (value : Data) (a : A) → Spells bytes value → stated value ≡ Ok a → IsPut a
      → after ≡ before → Reads stated IsPut bytes old new before after 0
  read_refuses : (value : Data) (fault : Fault) → Spells bytes value → stated value ≡ Err fault
      → after ≡ code_number fault.code → new ≡ old
      → Reads stated IsPut bytes old new before after 3
  spells_nothing : ((value : Data) → ¬ Spells bytes value) → after ≡ 0 → new ≡ old
      → Reads stated IsPut bytes old new before after 3
  read_starves : after ≡ before → new ≡ old → Reads stated IsPut bytes old new before after 4

-- of a platform
abbrev pub ReadsPlatform : List ℕ → Option Object → Option Object → ℕ → ℕ → ℕ → Type 0
ReadsPlatform bytes old new before after status =
    Reads platform_of (λ p. new ≡ Some (Platform p)) bytes old new before after status

-- of the constraints of a participant
abbrev pub ReadsConstraints : List ℕ → Option Object → Option Object → ℕ → ℕ → ℕ → Type 0
ReadsConstraints bytes old new before after status =
    Reads participant_of (λ p. constraints_in new ≡ Some p) bytes old new before after status

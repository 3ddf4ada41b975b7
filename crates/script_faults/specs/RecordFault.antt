-- What is told of a record that stands alone: its first fault.
use Rattle.std.specs.Prelude.{◌≡◌, ℕ, ◌++◌, List, Option, Some, None, Result, Ok, Err, codes}
use Rattle.serde_json.specs.Data.{Data}
use Rattle.record_reading.specs.Faults.{fault_text}
use Rattle.record_reading.specs.Reading.{participant_of, platform_of}
use Rattle.record_reading.specs.declared.fault.Fault.{Fault}
use Rattle.script_reading.specs.Text.{IsJson}
use Rattle.script_faults.specs.declared.record_alone.RecordFault.{RecordFault}
use Rattle.script_faults.specs.declared.record_alone.RecordFault.TheVariants.{Faulty, NotJson}
use Rattle.script_faults.specs.declared.record_alone.RecordKind.{RecordKind}
use Rattle.script_faults.specs.declared.record_alone.RecordKind.TheVariants.{Participant, Platform}

-- the fault in what a record's value states, if it has one
abbrev pub fault_in : {A : Type 0} → Result A Fault → Option Fault
fault_in (Ok stated) = None
fault_in (Err fault) = Some fault

-- the first fault of a value that is read as a record of a kind, if it has one
abbrev pub first_fault : RecordKind → Data → Option Fault
first_fault Platform value = fault_in (platform_of value)
first_fault Participant value = fault_in (participant_of value)

-- the value that bytes spell, or that they are no JSON
abbrev pub Spells : List ℕ → Option Data → Type 0
Spells bytes (Some value) = IsJson bytes value
Spells bytes None = (value : Data) → ¬ IsJson bytes value

-- what is wrong with bytes that are read as a record of a kind: they are no JSON, or their value has
-- this first fault; or nothing is
abbrev pub HasFault : RecordKind → List ℕ → Option RecordFault → Type 0
HasFault kind bytes None = (value : Data) × (IsJson bytes value × (first_fault kind value ≡ None))
HasFault kind bytes (Some NotJson) = (value : Data) → ¬ IsJson bytes value
HasFault kind bytes (Some (Faulty fault)) =
    (value : Data) × (IsJson bytes value × (first_fault kind value ≡ Some fault))

-- the name of what is wrong: `S3 id`, or `no JSON`
abbrev pub fault_name : RecordFault → List ℕ
fault_name NotJson = codes "no JSON"
fault_name (Faulty fault) = fault_text fault

-- a text whose first line is the name of what is wrong
abbrev pub IsToldIn : RecordFault → List ℕ → Type 0
IsToldIn fault text = (lines : List ℕ) × (text ≡ fault_name fault ++ codes "\n" ++ lines)

-- what is told of the bytes of a record: a text of what is wrong with them, or none where nothing is
abbrev pub TellsRecord : RecordKind → List ℕ → Option (List ℕ) → Type 0
TellsRecord kind bytes None = HasFault kind bytes None
TellsRecord kind bytes (Some text) =
    (fault : RecordFault) × (HasFault kind bytes (Some fault) × IsToldIn fault text)

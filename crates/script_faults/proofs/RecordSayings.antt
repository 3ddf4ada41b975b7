-- What is told of a record, by what its bytes are.
use Rattle.std.specs.Prelude.{◌≡◌, ℕ, ◌++◌, List, Some, None, codes}
use Rattle.serde_json.specs.Data.{Data}
use Rattle.record_reading.specs.declared.fault.Fault.{Fault}
use Rattle.script_reading.specs.Text.{IsJson}
use Rattle.script_faults.specs.declared.record_alone.RecordFault.TheVariants.{Faulty, NotJson}
use Rattle.script_faults.specs.declared.record_alone.RecordKind.{RecordKind}
use Rattle.script_faults.specs.RecordFault.{TellsRecord, fault_name, first_fault}

-- bytes that spell no value
pub tells_no_json : (kind : RecordKind) (bytes text lines : List ℕ) → ((value : Data) → ¬ IsJson bytes value) → text ≡ fault_name NotJson ++ codes "\n" ++ lines → TellsRecord kind bytes (Some text)
tells_no_json kind bytes text lines none is = (NotJson, (none, (lines, is)))

-- a value with a first fault
pub tells_fault : (kind : RecordKind) (bytes text lines : List ℕ) (value : Data) (fault : Fault) → IsJson bytes value → first_fault kind value ≡ Some fault → text ≡ fault_name (Faulty fault) ++ codes "\n" ++ lines → TellsRecord kind bytes (Some text)
tells_fault kind bytes text lines value fault json first is = (Faulty fault, ((value, (json, first)), (lines, is)))

-- a value without one
pub tells_none : (kind : RecordKind) (bytes : List ℕ) (value : Data) → IsJson bytes value → first_fault kind value ≡ None → TellsRecord kind bytes None
tells_none kind bytes value json none = (value, (json, none))

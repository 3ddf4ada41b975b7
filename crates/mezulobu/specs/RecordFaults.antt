-- What is said of the fault of a record, by its status.
use Rattle.std.specs.Prelude.{ℕ, zero, suc, List, [], ◌∷◌, Option, Some, None, slice_get}
use Rattle.script_faults.specs.RecordFault.{TellsRecord}
use Rattle.script_faults.specs.declared.record_alone.RecordKind.{RecordKind}
use Rattle.script_faults.specs.declared.record_alone.RecordKind.TheVariants.{Participant, Platform}

-- whose records have a number, from 1: those of a refusal's kind
abbrev pub record_kinds : List RecordKind
record_kinds = Platform ∷ Participant ∷ []

-- whose record a number says that it is
abbrev pub kind_at : ℕ → Option RecordKind
kind_at zero = None
kind_at (suc n) = slice_get record_kinds n

-- the fault of a record: at 0 its words, and at 6 none, where nothing is wrong
pub data FaultSays (kind : RecordKind) (bytes : List ℕ) : ℕ → List ℕ → Type 0 where
  tells_fault : (text : List ℕ) → TellsRecord kind bytes (Some text) → FaultSays kind bytes 0 text
  finds_none : TellsRecord kind bytes None → FaultSays kind bytes 6 []

-- A reader's faults as a report prints them.
use Rattle.std.specs.Prelude.{ℕ, ◌++◌, List, Option, Some, None, codes}
use Rattle.sysmem_counts.specs.declared.field.Field.{Field}
use Rattle.sysmem_counts.specs.Field.{field_name}
use Rattle.record_reading.specs.declared.fault.Code.{Code}
use Rattle.record_reading.specs.declared.fault.Code.TheVariants.{NotAnObject, UnknownField}
use Rattle.record_reading.specs.declared.fault.Code.TheVariants.{WrongKind, UnknownName, BadUsage}
use Rattle.record_reading.specs.declared.fault.Code.TheVariants.{NoColourSpaces, BadMultiple}
use Rattle.record_reading.specs.declared.fault.Code.TheVariants.{RepeatedPair, TooMany}
use Rattle.record_reading.specs.declared.fault.Code.TheVariants.{RepeatedHeap, BadPlatformList}
use Rattle.record_reading.specs.declared.fault.Code.TheVariants.{TiledMisfit, WantOfMemory}
use Rattle.record_reading.specs.declared.fault.Fault.{Fault}
use Rattle.record_reading.specs.declared.fault.FaultPlace.{FaultPlace}
use Rattle.record_reading.specs.declared.fault.FaultPlace.TheVariants.{Whole, At}

abbrev pub code_name : Code → List ℕ
code_name NotAnObject = codes "S1"
code_name UnknownField = codes "S2"
code_name WrongKind = codes "S3"
code_name UnknownName = codes "S4"
code_name BadUsage = codes "S5"
code_name NoColourSpaces = codes "S6"
code_name BadMultiple = codes "S7"
code_name RepeatedPair = codes "S8"
code_name TooMany = codes "S9"
code_name RepeatedHeap = codes "S10"
code_name BadPlatformList = codes "S11"
code_name TiledMisfit = codes "S12"
code_name WantOfMemory = codes "S13"

abbrev pub place_name : FaultPlace → List ℕ
place_name Whole = codes "whole"
place_name (At field) = field_name field

-- `S3 id`
abbrev pub fault_text : Fault → List ℕ
fault_text fault = code_name fault.code ++ codes " " ++ place_name fault.at

-- what is wrong with a field
abbrev pub wrong : Code → Field → Fault
wrong code field = record { code = code; at = At field }

-- of the codes S13 alone says that memory was refused
abbrev pub lack_at : Code → FaultPlace → Option Field
lack_at WantOfMemory (At field) = Some field
lack_at _ _ = None

-- the field for which a fault says that memory was refused: that of an S13
abbrev pub lack_of : Fault → Option Field
lack_of fault = lack_at fault.code fault.at

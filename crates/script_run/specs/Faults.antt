-- The fault of a run by the fault of its parts.
use Rattle.byte_transfer.specs.declared.fault.ReadFault.{ReadFault}
use Rattle.byte_transfer.specs.declared.fault.ReadFault.TheVariants as reading
use Rattle.script_reading.specs.declared.fault.ParseFault.{ParseFault}
use Rattle.script_reading.specs.declared.fault.ParseFault.TheVariants as parsing
use Rattle.script_run.specs.declared.fault.RunFault.{RunFault}
use Rattle.script_run.specs.declared.fault.RunFault.TheVariants.{Read, NoMemory, Script}

abbrev pub fault_of_read : ReadFault → RunFault
fault_of_read reading.Failed = Read
fault_of_read reading.NoMemory = NoMemory

abbrev pub fault_of_parse : ParseFault → RunFault
fault_of_parse parsing.NoMemory = NoMemory
fault_of_parse (parsing.Refused fault) = Script fault

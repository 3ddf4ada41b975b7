-- The exit status of a run or a check, and the fault that is told.
use Rattle.std.specs.Prelude.{ℕ, Option, Some, None, Result, Ok, Err}
use Rattle.script_run.specs.declared.fault.RunFault.{RunFault}
use Rattle.script_run.specs.declared.fault.RunFault.TheVariants.{Read, Write, NoMemory}
use Rattle.script_run.specs.declared.fault.RunFault.TheVariants.{Script, Proof, Audit}
use Rattle.script_run.specs.declared.running.RunOutcome.{RunOutcome}
use Rattle.script_run.specs.declared.running.RunOutcome.TheVariants.{Done, MemoryRefused, CheckedNo}

-- the exit status of a run, or of a check
abbrev pub run_code : Result RunOutcome RunFault → ℕ
run_code (Ok Done) = 0
run_code (Err Read) = 1
run_code (Err Write) = 1
run_code (Err (Script fault)) = 3
run_code (Err Proof) = 3
run_code (Ok MemoryRefused) = 4
run_code (Err NoMemory) = 4
run_code (Err (Audit found)) = 5
run_code (Ok CheckedNo) = 6

-- the fault whose text a run or a check leaves on standard error
abbrev pub fault_said : Result RunOutcome RunFault → Option RunFault
fault_said (Ok Done) = None
fault_said (Ok MemoryRefused) = Some NoMemory
fault_said (Ok CheckedNo) = None
fault_said (Err fault) = Some fault

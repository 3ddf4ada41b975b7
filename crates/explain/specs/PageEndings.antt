-- How an explanation ends the program.
use Rattle.std.specs.Prelude.{ℕ, Bool, if◌then◌else◌, Option, Some, None, Result, Ok, Err}
use Rattle.explain.specs.declared.explaining.Outcome.{Outcome}
use Rattle.explain.specs.declared.explaining.Outcome.TheVariants.{Faulty, Fine, Refused, Untold}
use Rattle.script_run.specs.declared.fault.RunFault.{RunFault}
use Rattle.script_run.specs.Endings.{run_code}

-- the exit status of an explanation, which tells what was explained where it is to
abbrev pub explained_code : Bool → Result Outcome RunFault → ℕ
explained_code is_strict (Ok Fine) = 0
explained_code is_strict (Ok Faulty) = if is_strict then 6 else 0
explained_code is_strict (Ok Refused) = 3
explained_code is_strict (Ok Untold) = 4
explained_code is_strict (Err fault) = run_code (Err fault)

-- the fault that is told
abbrev pub explained_said : Result Outcome RunFault → Option RunFault
explained_said (Ok outcome) = None
explained_said (Err fault) = Some fault

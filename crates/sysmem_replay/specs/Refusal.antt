-- How a command line that asks for no job ends the program.
use Rattle.std.specs.Prelude.{ℕ, Option, Some, None}
use Rattle.clap.specs.declared.error.kind.ErrorKind.{ErrorKind}
use Rattle.clap.specs.declared.error.kind.ErrorKind.TheVariants.{DisplayHelp, DisplayVersion, OutOfMemory}
use Rattle.script_run.specs.declared.fault.RunFault.{RunFault}
use Rattle.script_run.specs.declared.fault.RunFault.TheVariants.{NoMemory}

-- the exit status of a command line that asks for no job
abbrev pub refusal_code : ErrorKind → ℕ
refusal_code DisplayHelp = 0
refusal_code DisplayVersion = 0
refusal_code OutOfMemory = 4
refusal_code _ = 2

-- the fault that stands in place of the parser's text
abbrev pub refusal_said : ErrorKind → Option RunFault
refusal_said OutOfMemory = Some NoMemory
refusal_said _ = None

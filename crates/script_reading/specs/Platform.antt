-- The platform that a script names.
use Rattle.std.specs.Prelude.{Result, Ok, Err}
use Rattle.serde_json.specs.Data.{Data}
use Rattle.record_reading.specs.declared.fault.Fault.{Fault}
use Rattle.negotiation_inputs.specs.Platform.{PlatformFacts}
use Rattle.record_reading.specs.Reading.{platform_of}
use Rattle.script_reading.specs.declared.fault.ScriptFault.{ScriptFault}
use Rattle.script_reading.specs.declared.fault.ScriptFault.TheVariants.{Platform}

-- a fault of the platform is one of its script
abbrev pub script_says : Result PlatformFacts Fault → Result PlatformFacts ScriptFault
script_says (Ok platform) = Ok platform
script_says (Err fault) = Err (Platform fault)

-- the platform that a value stands for, or its fault
abbrev pub platform_said : Data → Result PlatformFacts ScriptFault
platform_said value = script_says (platform_of value)

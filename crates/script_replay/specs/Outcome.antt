-- What the bytes of a script give: a fault or a report.
use Rattle.std.specs.Prelude.{◌≡◌, ℕ, List, Bool, Result, Ok, Err, ⊤}
use Rattle.std.specs.String.{string_bytes}
use Rattle.serde_json.specs.Data.{Data}
use Rattle.script_reading.specs.declared.fault.ScriptFault.{ScriptFault}
use Rattle.script_replay.specs.declared.report.Report.{Report}
use Rattle.negotiation_inputs.specs.Platform.{PlatformFacts}
use Rattle.script_replay.specs.Report.{Gave, IsReported}
use Rattle.script_reading.specs.Script.{ScriptFacts, script_of}
use Rattle.script_reading.specs.Text.{Outcome}

-- a report, and whether memory was refused in it
pub record ReportFacts : Type 0 where
  pub text : List ℕ
  pub starved : Bool

-- what the program's report stands for
abbrev pub report_seen : Report → ReportFacts
report_seen report = record { text = string_bytes report.text; starved = report.starved }

-- what is said of the decisions, for a platform
abbrev pub SaysOf : Type 1
SaysOf = PlatformFacts → Gave

-- what the value of a script gives: its first fault, or a report of its calls,
-- with decisions of which this is said
pub data ValueRunsTo (says : SaysOf) (value : Data) : Result ReportFacts ScriptFault → Type 0 where
  refused : (fault : ScriptFault) → script_of value ≡ Err fault → ValueRunsTo says value (Err fault)
  reported : (script : ScriptFacts) (report : ReportFacts) → script_of value ≡ Ok script
      → IsReported script.platform script.calls (says script.platform) report.text report.starved
      → ValueRunsTo says value (Ok report)

-- what the bytes of a script give: a fault of theirs, or what their value gives
abbrev pub RunsWith : SaysOf → List ℕ → Result ReportFacts ScriptFault → Type 0
RunsWith says input said = Outcome (ValueRunsTo says) input said

-- whatever is decided
abbrev pub anyhow : SaysOf
anyhow platform decisions = ⊤

abbrev pub RunsTo : List ℕ → Result ReportFacts ScriptFault → Type 0
RunsTo input said = RunsWith anyhow input said

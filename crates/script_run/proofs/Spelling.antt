-- What the bytes of a script give, from what their value gives.
use Rattle.std.proofs.Common.{◌≡◌, ℕ, List, Result, Ok, Err, refl}
use Rattle.std.specs.Prelude.{IfOk, IfErr}
use Rattle.std.specs.String.{string_bytes}
use Rattle.serde_json.specs.Data.{Data}
use Rattle.serde_json.specs.View.{view}
use Rattle.serde_json.specs.declared.value.Value.{Value}
use Rattle.script_reading.specs.declared.fault.ParseFault.{ParseFault}
use Rattle.script_reading.specs.declared.fault.ParseFault.TheVariants.{NoMemory, Refused}
use Rattle.script_reading.specs.declared.fault.ScriptFault.{ScriptFault}
use Rattle.script_reading.specs.declared.script.Script.{Script}
use Rattle.script_reading.specs.Faults.{GivesOneOf, Gives}
use Rattle.script_reading.specs.Script.{ScriptFacts, script_of}
use Rattle.script_reading.specs.Seen.{script_seen}
use Rattle.script_reading.specs.Text.{Outcome, too_long, not_json, spelled, IsValue}
use Rattle.script_replay.specs.declared.report.Report.{Report}
use Rattle.script_run.specs.declared.running.CertifiedReport.{CertifiedReport}
use Rattle.script_run.proofs.CallerLemmas.{runs-so}
use Rattle.script_run.specs.Certificate.{CertifiedFacts, CertifiesTo, certified_seen}
use Rattle.script_replay.specs.Outcome.{ReportFacts, SaysOf, anyhow, ValueRunsTo, refused, reported, RunsWith, report_seen}
use Rattle.script_replay.specs.Report.{IsReported}

module _ (says : SaysOf) where
  no_value : (bytes : List ℕ) (fault : ScriptFault) → Outcome IsValue bytes (Err fault) → RunsWith says bytes (Err fault)
  no_value bytes _ (too_long long) = too_long long
  no_value bytes _ (not_json short none) = not_json short none
  no_value bytes fault (spelled value short json _ said) = absurd (cc)

  -- bytes that spell no value
  pub runs-fault : (bytes : List ℕ) (fault : ParseFault) → GivesOneOf {X = Value} {A = Data} view (Err fault) (Outcome IsValue bytes) → GivesOneOf {X = Report} {A = ReportFacts} report_seen (Err fault) (RunsWith says bytes)
  runs-fault bytes NoMemory said = tt
  runs-fault bytes (Refused fault) said = no_value bytes fault said

  -- the answer of bytes is that of the value that they spell
  pub spells : (bytes : List ℕ) (d : Data) (read : Result Data ScriptFault) (answer : Result ReportFacts ScriptFault) → read ≡ Ok d → Outcome IsValue bytes read → ValueRunsTo says d answer → RunsWith says bytes answer
  spells bytes d _ answer e (too_long long) said = absurd (cc)
  spells bytes d _ answer e (not_json short none) said = absurd (cc)
  spells bytes d _ answer e (spelled value short json _ is) said =
      let same : value ≡ d = (cc) in
      spelled d short (rw (← same) json) answer said

  -- bytes that spell a value
  pub runs-value : (bytes : List ℕ) (d : Data) (result : Result Report ParseFault) → Outcome IsValue bytes (Ok d)
      → GivesOneOf report_seen result (ValueRunsTo says d) → GivesOneOf report_seen result (RunsWith says bytes)
  runs-value bytes d (Ok report) spelled_by said = spells bytes d (Ok d) (Ok (report_seen report)) refl spelled_by said
  runs-value bytes d (Err NoMemory) spelled_by said = tt
  runs-value bytes d (Err (Refused fault)) spelled_by said = spells bytes d (Ok d) (Err fault) refl spelled_by said

  -- a value that is no script
  pub value-fault : (d : Data) (fault : ParseFault) → Gives {X = Script} {A = ScriptFacts} script_seen (Err fault) (script_of d) → GivesOneOf {X = Report} {A = ReportFacts} report_seen (Err fault) (ValueRunsTo says d)
  value-fault d NoMemory said = tt
  value-fault d (Refused fault) said = refused fault said

  -- the report of a script is one of its value
  pub script-report : (d : Data) (script : Script) (result : Result Report ParseFault) → script_of d ≡ Ok (script_seen script)
      → IfOk result (λ report. IsReported (script_seen script).platform (script_seen script).calls (says (script_seen script).platform) (string_bytes report.text) report.starved)
      → IfErr result (λ fault. fault ≡ NoMemory) → GivesOneOf report_seen result (ValueRunsTo says d)
  script-report d script (Ok report) read said none = reported (script_seen script) (report_seen report) read said
  script-report d script (Err fault) read said none = rw none tt

-- a fault, whatever is said of decisions
pub fault-so : (says : SaysOf) (bytes : List ℕ) (fault : ParseFault) → GivesOneOf {X = Report} {A = ReportFacts} report_seen (Err fault) (RunsWith says bytes)
    → GivesOneOf {X = CertifiedReport} {A = CertifiedFacts} certified_seen (Err fault) (CertifiesTo bytes)
fault-so says bytes NoMemory said = tt
fault-so says bytes (Refused fault) said = runs-so says anyhow bytes (Err fault) (λ platform cs g. tt) said

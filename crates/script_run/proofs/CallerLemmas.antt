-- What callers need of what a run says of the bytes that it read.
use Rattle.std.proofs.Common.{◌≡◌, ℕ, ◌≤◌, ◌++◌, List, [], length, Option, Some, None, Result, sym, ◌∙◌, ap, append-nil, length-append, arith}
use Rattle.std.specs.Prelude.{IfSome}
use Rattle.std.specs.Io.KnownBytes.{Appends}
use Rattle.byte_transfer.specs.Transfer.{ReadsToLimit}
use Rattle.script_reading.specs.declared.fault.ScriptFault.{ScriptFault}
use Rattle.script_reading.specs.Text.{too_long, not_json, spelled, longest}
use Rattle.serde_json.specs.Data.{Data}
use Rattle.negotiation_inputs.specs.Platform.{PlatformFacts}
use Rattle.script_replay.specs.Outcome.{ReportFacts, RunsWith, SaysOf, ValueRunsTo, refused, reported}
use Rattle.script_replay.specs.Report.{Certified}

pub whole-read : (input rest bytes : List ℕ) → input ≡ bytes ++ rest → (length bytes ≤ longest → rest ≡ []) → length bytes ≤ longest → input ≡ bytes
whole-read input rest bytes e all short = e ∙ (ap (λ (t : List ℕ). bytes ++ t) (all short) ∙ append-nil bytes)

runs-read : (says : SaysOf) (input rest bytes : List ℕ) (said : Result ReportFacts ScriptFault) → input ≡ bytes ++ rest → (length bytes ≤ longest → rest ≡ [])
    → RunsWith says bytes said → RunsWith says input said
runs-read says input rest bytes _ e all (too_long long) = rw e (too_long (omega (arith, length-append bytes rest)))
runs-read says input rest bytes _ e all (not_json short none) = rw (whole-read input rest bytes e all short) (not_json short none)
runs-read says input rest bytes _ e all (spelled value short json answer said) = rw (whole-read input rest bytes e all short) (spelled value short json answer said)

-- what holds of the bytes that were read holds of the input
pub runs-input : (says : SaysOf) (old new : Option (List ℕ)) (bytes : List ℕ) (said : Result ReportFacts ScriptFault) → ReadsToLimit longest old new bytes → RunsWith says bytes said
    → IfSome old (λ input. RunsWith says input said)
runs-input says None new bytes said read runs = tt
runs-input says (Some input) None bytes said read runs = absurd read.taken
runs-input says (Some input) (Some rest) bytes said read runs = runs-read says input rest bytes said read.taken read.all runs

-- nothing after what is held leaves it as it is
pub Appends-nothing : (hold : Option (List ℕ)) → Appends hold hold []
Appends-nothing None = tt
Appends-nothing (Some bytes) = sym (append-nil bytes)

-- what is said of the decisions of a value's report, from what else is
value-so : (says other : SaysOf) (d : Data) (answer : Result ReportFacts ScriptFault) → ((platform : PlatformFacts) (cs : List Certified) → says platform cs → other platform cs)
    → ValueRunsTo says d answer → ValueRunsTo other d answer
value-so says other d _ f (refused fault e) = refused fault e
value-so says other d _ f (reported script report e r) = reported script report e (record { decisions = r.decisions; report = r.report; gave = f script.platform r.decisions r.gave })

pub runs-so : (says other : SaysOf) (bytes : List ℕ) (answer : Result ReportFacts ScriptFault) → ((platform : PlatformFacts) (cs : List Certified) → says platform cs → other platform cs)
    → RunsWith says bytes answer → RunsWith other bytes answer
runs-so says other bytes _ f (too_long long) = too_long long
runs-so says other bytes _ f (not_json short none) = not_json short none
runs-so says other bytes _ f (spelled value short json answer said) = spelled value short json answer (value-so says other value answer f said)

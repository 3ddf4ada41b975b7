-- What the bytes of a script give is a report of its calls, with its certificate.
use Rattle.std.proofs.Common.{◌≡◌, ℕ, ◌+◌, ◌≤◌, List, length, false, Result, Ok, sym, ◌∙◌, subst}
use Rattle.std.specs.Prelude.{is_none}
use Rattle.std.specs.List.{AllByRecursion}
use Rattle.serde_json.specs.Data.{Data}
use Rattle.sysmem_alloc.specs.Decision.{answer_of}
use Rattle.verdict_claims.specs.declared.certificate.Claim.{Claim}
use Rattle.script_reading.specs.Script.{CallFacts, ScriptFacts}
use Rattle.script_reading.specs.Text.{IsJson, longest, not_json, spelled, too_long, Outcome}
use Rattle.script_reading.specs.declared.fault.ScriptFault.{ScriptFault}
use Rattle.script_replay.proofs.CallerLemmas.{none_mapped, or_right, unstarved_before}
use Rattle.script_replay.specs.Outcome.{ReportFacts, ValueRunsTo, refused, reported}
use Rattle.script_replay.specs.Report.{Certified, Goes, IsReported, calls, decides, stays, with_decision}
use Rattle.script_replay.specs.State.{RunState}
use Rattle.script_run.specs.Certificate.{CertifiedFacts, IsCertifiedBy}
use Rattle.script_check.specs.CheckedFile.{IsScriptOf}
use Rattle.script_check.specs.Headline.{HasClaim}

-- where memory is not refused, each decision has a claim
pub each_claimed : (number : ℕ) (s t : RunState) (rs : List CallFacts) (a : List ℕ) (cs : List Certified) → Goes number s rs a cs t → t.starved ≡ false → AllByRecursion HasClaim cs
each_claimed _ _ _ _ _ _ (stays number s) fed = tt
each_claimed _ _ _ _ _ _ (calls number s answered t r rs reply text cs idle replied rest) fed = each_claimed (number + 1) answered t rs text cs rest fed
each_claimed _ _ _ _ _ _ (decides number s t c rs what text cs allowed said rest) fed =
    let short : is_none (answer_of c).verdict ≡ false = or_right s.starved (is_none (answer_of c).verdict) (unstarved_before number (with_decision s (answer_of c)) t rs text cs rest fed) in
    (sym (none_mapped (λ (x : Claim). x.verdict) c.claim) ∙ short, each_claimed number (with_decision s (answer_of c)) t rs text cs rest fed)

-- a report of the bytes of a script, and its certificate
pub record Reports (input : List ℕ) (c : CertifiedFacts) : Type 0 where
  pub script : ScriptFacts
  pub reads : IsScriptOf input script
  pub report : IsReported script.platform script.calls (IsCertifiedBy c.certificate script.platform) c.text c.starved

value_reports : (input : List ℕ) (c : CertifiedFacts) (value : Data) (said : Result ReportFacts ScriptFault) → length input ≤ longest → IsJson input value
    → said ≡ Ok (record { text = c.text; starved = c.starved }) → ValueRunsTo (IsCertifiedBy c.certificate) value said → Reports input c
value_reports input c value _ short json e (refused fault why) = absurd (cc)
value_reports input c value _ short json e (reported script report says is) =
    let same : report ≡ record { text = c.text; starved = c.starved } = cc in
    record {
      script = script;
      reads = record { value = value; spells = record { short = short; json = json }; says = says };
      report = subst (λ (r : ReportFacts). IsReported script.platform script.calls (IsCertifiedBy c.certificate script.platform) r.text r.starved) same is;
    }

pub input_reports : (input : List ℕ) (c : CertifiedFacts) (said : Result ReportFacts ScriptFault) → said ≡ Ok (record { text = c.text; starved = c.starved })
    → Outcome (ValueRunsTo (IsCertifiedBy c.certificate)) input said → Reports input c
input_reports input c _ e (too_long long) = absurd (cc)
input_reports input c _ e (not_json short none) = absurd (cc)
input_reports input c _ e (spelled value short json said is) = value_reports input c value said short json e is

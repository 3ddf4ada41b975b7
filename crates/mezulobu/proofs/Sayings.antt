-- What runs and checks give is what is told of them.
use Rattle.std.proofs.Common.{◌≡◌, ◌∙◌, ℕ, List, [], Bool, Result, Ok, Err, false, ap, subst}
use Rattle.std.specs.Prelude.{IfOk, codes}
use Rattle.std.specs.String.{string_bytes}
use Rattle.certificate_pieces.specs.Texts.{pieces_text}
use Rattle.script_check.specs.CheckedFile.{ChecksTo, ProofIsRefused}
use Rattle.script_check.specs.declared.checked_file.CheckAnswer.TheVariants.{Yes, No}
use Rattle.script_replay.specs.declared.decider.Objection.{Objection}
use Rattle.script_replay.specs.declared.report.Report.{Report}
use Rattle.script_replay.specs.Outcome.{RunsTo, report_seen}
use Rattle.script_reading.specs.declared.fault.ScriptFault.{ScriptFault}
use Rattle.script_run.specs.Certificate.{CertifiesTo, certified_seen}
use Rattle.script_run.specs.declared.running.CertifiedReport.{CertifiedReport}
use Rattle.mezulobu.specs.declared.answers.CertifiedAnswer.{CertifiedAnswer}
use Rattle.mezulobu.specs.Says.{RunSays, reports, refuses, ProvedRunSays, proves, refuses_unproved, CheckSays, accepts, objects, refuses_script, refuses_certificate}
use Rattle.mezulobu.specs.Words.{refusal_words}

pub run_done : (script text : List ℕ) (report : Report) → RunsTo script (Ok (report_seen report)) → report.starved ≡ false → text ≡ string_bytes report.text → RunSays script 0 text
run_done script text report runs fed same =
    rw same (reports (string_bytes report.text) (rw (← fed) runs))

pub run_refused : (script out : List ℕ) (fault : ScriptFault) → RunsTo script (Err fault) → out ≡ refusal_words fault → RunSays script 3 out
run_refused script out fault runs words = rw words (refuses fault runs)

pub proved_done : (script text certificate : List ℕ) (c : CertifiedReport) → CertifiesTo script (Ok (certified_seen c)) → c.report.starved ≡ false → text ≡ string_bytes c.report.text
    → certificate ≡ pieces_text c.certificate → ProvedRunSays script 0 text certificate
proved_done script text certificate c runs fed same other =
    rw same (rw other (proves (string_bytes c.report.text) (pieces_text c.certificate)
    (subst (λ (b : Bool). CertifiesTo script (Ok (record { text = string_bytes c.report.text; certificate = pieces_text c.certificate; starved = b }))) fed runs)))

pub certified_told : {E : Type 0} (script : List ℕ) (c : CertifiedReport) (report : Report) (pieces : List (List ℕ)) (bytes : List ℕ) (result : Result CertifiedAnswer E)
    → CertifiesTo script (Ok (certified_seen c)) → report ≡ c.report → pieces ≡ c.certificate → bytes ≡ pieces_text pieces
    → IfOk result (λ a. report.starved ≡ false) → IfOk result (λ a. a.text.items ≡ string_bytes report.text) → IfOk result (λ a. a.certificate.items ≡ bytes) → IfOk result (λ a. a.status ≡ 0)
    → IfOk result (λ a. ProvedRunSays script a.status a.text.items a.certificate.items)
certified_told script c report pieces bytes (Ok a) runs r p is fed text certificate status =
    rw status (proved_done script a.text.items a.certificate.items c runs (subst (λ (x : Report). x.starved ≡ false) r fed) (text ∙ ap (λ (x : Report). string_bytes x.text) r) (certificate ∙ is ∙ ap pieces_text p))
certified_told script c report pieces bytes (Err e) runs r p is fed text certificate status = tt

pub proved_refused : (script out other : List ℕ) (fault : ScriptFault) → RunsTo script (Err fault) → out ≡ refusal_words fault → other ≡ [] → ProvedRunSays script 3 out other
proved_refused script out other fault runs words none = rw words (rw none (refuses_unproved fault runs))

pub check_yes : (script certificate text out : List ℕ) → ChecksTo script certificate Yes text → out ≡ text → CheckSays script certificate 0 out
check_yes script certificate text out checks same = rw same (accepts text checks)

pub check_no : (script certificate text out : List ℕ) (objection : Objection) → ChecksTo script certificate (No objection) text → out ≡ text → CheckSays script certificate 6 out
check_no script certificate text out objection checks same = rw same (objects objection text checks)

pub check_refused : (script certificate out : List ℕ) (fault : ScriptFault) → RunsTo script (Err fault) → out ≡ refusal_words fault → CheckSays script certificate 3 out
check_refused script certificate out fault runs words = rw words (refuses_script fault runs)

pub check_unread : (script certificate out : List ℕ) → ProofIsRefused script certificate → out ≡ codes "proof refused" → CheckSays script certificate 3 out
check_unread script certificate out none words = rw words (refuses_certificate none)

-- A report is of a legal history.
use Rattle.std.proofs.Common.{◌≡◌, ℕ, ◌+◌, List, [], ◌∷◌, false, IsOk, refl, sym, ◌∙◌, ap, subst}
use Rattle.serde_json.specs.Data.{Data}
use Rattle.sysmem_alloc.specs.Decision.{answer_of}
use Rattle.sysmem_alloc.specs.Entry.{BookEntry, Acted, Decided}
use Rattle.sysmem_alloc.specs.Headline.{Headline}
use Rattle.sysmem_alloc.specs.History.{Allows, AreAllowed, IsLegal, replay_from}
use Rattle.sysmem_alloc.specs.State.{State as BookState}
use Rattle.negotiation_inputs.specs.Platform.{PlatformFacts}
use Rattle.script_reading.specs.Script.{CallFacts}
use Rattle.script_replay.specs.declared.reply.Reply.{Reply}
use Rattle.script_replay.specs.Answer.{Replies, skips, misreads, starves, lacks, refuses, accepts, tells}
use Rattle.script_replay.specs.Report.{Certified, Goes, IsReport, calls, certified, decides, stays, with_decision}
use Rattle.script_replay.specs.State.{RunState, first_run_state}
use Rattle.script_check.specs.declared.checked_file.CheckAnswer.{CheckAnswer}
use Rattle.script_check.specs.declared.checked_file.CheckAnswer.TheVariants as answers
use Rattle.script_check.specs.Checked.{Answers, AreTaken, accepts, has_more, objects_to}
use Rattle.script_check.specs.Headline.{AreNegotiated, HeadlineOfBytes, ReportsAreLegal, YesIsNegotiated, certified_from}
use Rattle.script_check.proofs.ReadBack.{replied_platform}
use Rattle.script_check.proofs.Reported.{each_claimed, input_reports}

-- entries that are allowed lead from one state to another, with these decisions
record Leads (platform : PlatformFacts) (s t : BookState) (cs : List Certified) : Type 0 where
  history : List BookEntry
  allowed : AreAllowed platform s history
  leads : t ≡ replay_from s history
  decided : cs ≡ certified_from s history

module _ (platform : PlatformFacts) where
  -- a reply enters an action or nothing
  replied_leads : (s answered : RunState) (t : BookState) (r : CallFacts) (reply : Reply) (cs : List Certified) → Replies s r reply answered → Leads platform answered.book t cs → Leads platform s.book t cs
  replied_leads s _ t r _ cs (skips none) on = on
  replied_leads s _ t r _ cs (misreads k d fault here act read) on = on
  replied_leads s _ t r _ cs (starves k d fault here act want lack) on = on
  replied_leads s _ t r _ cs (lacks k d asked here act read) on = on
  replied_leads s _ t r _ cs (refuses k deed refusal here asks why) on = on
  replied_leads s _ t r _ cs (accepts k made deed tree here asks done) on = record {
    history = Acted k deed ∷ on.history;
    allowed = (subst IsOk (sym done) refl, on.allowed);
    leads = on.leads;
    decided = on.decided;
  }
  replied_leads s _ t r _ cs (tells k here asks) on = on

  goes_leads : (number : ℕ) (s t : RunState) (rs : List CallFacts) (a : List ℕ) (cs : List Certified) → s.platform ≡ platform → Goes number s rs a cs t → Leads platform s.book t.book cs
  goes_leads _ _ _ _ _ _ on (stays number s) = record { history = []; allowed = tt; leads = refl; decided = refl }
  goes_leads _ _ _ _ _ _ on (calls number s answered t r rs reply text cs idle replied rest) =
      replied_leads s answered t.book r reply cs replied (goes_leads (number + 1) answered t rs text cs (replied_platform s answered r reply replied ∙ on) rest)
  goes_leads _ _ _ _ _ _ on (decides number s t c rs what text cs allowed said rest) =
      let later = goes_leads number (with_decision s (answer_of c)) t rs text cs on rest in
      record {
        history = Decided c ∷ later.history;
        allowed = (subst (λ (p : PlatformFacts). Allows p s.book (Decided c)) on allowed, later.allowed);
        leads = later.leads;
        decided = ap (λ ds. certified s c ∷ ds) later.decided;
      }

pub reports_are_legal : ReportsAreLegal
reports_are_legal platform rs text decisions starved report =
    let on = goes_leads platform 1 (first_run_state platform) report.last rs report.lines decisions refl report.goes in
    (on.history, record { legal = on.allowed; leads = on.leads; decided = on.decided })

pub headline_of_bytes : ReportsAreLegal → Headline → HeadlineOfBytes
headline_of_bytes reports headline input c certifies =
    let r = input_reports input c _ refl certifies in
    let platform : PlatformFacts = r.script.platform in
    let report : IsReport platform r.script.calls c.text r.report.decisions c.starved = r.report.report in
    let (es, is) = reports platform r.script.calls c.text r.report.decisions c.starved report in
    record {
      script = r.script;
      reads = r.reads;
      decisions = r.report.decisions;
      report = report;
      history = es;
      leads = is;
      certificate = r.report.gave.text;
      proved = r.report.gave.proved;
      claimed = λ fed. each_claimed 1 (first_run_state platform) report.last r.script.calls report.lines r.report.decisions report.goes (sym report.memory ∙ fed);
      negotiated = λ before domain claim after split. headline platform before domain claim after (subst (IsLegal platform) split is.legal);
    }

-- what was taken
taken_negotiated : ReportsAreLegal → Headline → (platform : PlatformFacts) (rs : List CallFacts) (objects : List Data) → AreTaken platform rs objects → AreNegotiated platform rs objects
taken_negotiated reports headline platform rs objects taken =
    let (es, is) = reports platform rs taken.text taken.report.decisions false taken.report.report in
    record {
      text = taken.text;
      decisions = taken.report.decisions;
      report = taken.report.report;
      are_of = taken.report.gave;
      history = es;
      leads = is;
      negotiated = λ before domain claim after split. headline platform before domain claim after (subst (IsLegal platform) split is.legal);
    }

-- a yes is of objects that were taken
yes_taken : (platform : PlatformFacts) (rs : List CallFacts) (objects : List Data) (answer : CheckAnswer) → answer ≡ answers.Yes → Answers platform rs objects answer → AreTaken platform rs objects
yes_taken platform rs objects _ is (accepts taken) = taken
yes_taken platform rs objects _ is (objects_to objection fails) = absurd (cc)
yes_taken platform rs objects _ is (has_more taken left object split are) = absurd (cc)

pub yes_is_negotiated : ReportsAreLegal → Headline → YesIsNegotiated
yes_is_negotiated reports headline platform rs objects accepted = taken_negotiated reports headline platform rs objects (yes_taken platform rs objects answers.Yes refl accepted)

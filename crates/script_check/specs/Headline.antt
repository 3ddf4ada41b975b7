-- The history that a report is of, and what the headline says of its decisions.
use Rattle.std.specs.Prelude.{◌≡◌, ℕ, List, [], ◌∷◌, Bool, false, Ok, is_none}
use Rattle.std.specs.List.{AllByRecursion, AllZip}
use Rattle.serde_json.specs.Data.{Data}
use Rattle.sysmem_alloc.specs.Entry.{BookEntry, Acted, Decided}
use Rattle.sysmem_alloc.specs.Headline.{IsNegotiated, history_with}
use Rattle.sysmem_alloc.specs.History.{IsLegal, after_entry, replay}
use Rattle.sysmem_alloc.specs.State.{State as BookState, first_state}
use Rattle.negotiation_inputs.specs.Platform.{PlatformFacts}
use Rattle.sysmem_tree.specs.Path.{path_of}
use Rattle.verdict_claims.specs.declared.certificate.Claim.{Claim}
use Rattle.script_reading.specs.Script.{CallFacts, ScriptFacts}
use Rattle.script_replay.specs.Report.{Certified, IsReport}
use Rattle.script_replay.specs.Proving.{AreProved}
use Rattle.script_run.specs.Certificate.{CertifiedFacts, CertifiesTo, certificate_of}
use Rattle.script_check.specs.Checked.{Answers, IsOf}
use Rattle.script_check.specs.CheckedFile.{IsScriptOf}
use Rattle.script_check.specs.declared.checked_file.CheckAnswer.TheVariants as answers

-- what is certified of the decisions among entries, from a state on: of each the path of its
-- domain's root, and its claim
abbrev pub certified_from : BookState → List BookEntry → List Certified
certified_from s [] = []
certified_from s (Acted i deed ∷ es) = certified_from (after_entry s (Acted i deed)) es
certified_from s (Decided c ∷ es) =
    (path_of s.tree.nodes c.domain, c.claim) ∷ certified_from (after_entry s (Decided c)) es

-- of the decisions of a history
abbrev pub certified_in : List BookEntry → List Certified
certified_in es = certified_from first_state es

-- a legal history leads to this state of a collection, and has these decisions
pub record IsHistoryOf (platform : PlatformFacts) (decisions : List Certified) (last : BookState)
    (es : List BookEntry) : Type 0 where
  pub legal : IsLegal platform es
  pub leads : last ≡ replay es
  pub decided : decisions ≡ certified_in es

-- a report's collection has a legal history for the report's platform, with the report's decisions
abbrev pub ReportsAreLegal : Type 0
ReportsAreLegal = (platform : PlatformFacts) (rs : List CallFacts) (text : List ℕ)
    (decisions : List Certified) (starved : Bool)
    → (report : IsReport platform rs text decisions starved)
    → (es : List BookEntry) × IsHistoryOf platform decisions report.last.book es

-- a decision has a claim
abbrev pub HasClaim : Certified → Type 0
HasClaim d = is_none d.1 ≡ false

-- the bytes are a script, and what was written of them is the report of its calls, and the
-- certificate of its decisions; a legal history has these decisions, and leads to the collection as
-- the calls and decisions leave it; where memory wasn't refused, each decision has a claim; and
-- each that has one is negotiated as the headline says
pub record HasHistory (input : List ℕ) (c : CertifiedFacts) : Type 0 where
  pub script : ScriptFacts
  pub reads : IsScriptOf input script
  pub decisions : List Certified
  pub report : IsReport script.platform script.calls c.text decisions c.starved
  pub history : List BookEntry
  pub leads : IsHistoryOf script.platform decisions report.last.book history
  pub certificate : c.certificate ≡ certificate_of script.platform decisions
  pub proved : AreProved decisions
  pub claimed : c.starved ≡ false → AllByRecursion HasClaim decisions
  pub negotiated : (es : List BookEntry) (r : ℕ) (claim : Claim) (fs : List BookEntry)
      → history ≡ history_with es r claim fs → IsNegotiated script.platform es r claim fs

-- what a run with a certificate writes is of such a history
abbrev pub HeadlineOfBytes : Type 0
HeadlineOfBytes = (input : List ℕ) (c : CertifiedFacts) → CertifiesTo input (Ok c)
    → HasHistory input c

-- the objects of a certificate are the claims of the decisions of a report in which memory was not
-- refused; a legal history has these decisions, and leads to the collection as the calls and they
-- leave it; and each is negotiated as the headline says
pub record AreNegotiated (platform : PlatformFacts) (rs : List CallFacts) (objects : List Data)
    : Type 0 where
  pub text : List ℕ
  pub decisions : List Certified
  pub report : IsReport platform rs text decisions false
  pub are_of : AllZip (IsOf platform) objects decisions
  pub history : List BookEntry
  pub leads : IsHistoryOf platform decisions report.last.book history
  pub negotiated : (es : List BookEntry) (r : ℕ) (claim : Claim) (fs : List BookEntry)
      → history ≡ history_with es r claim fs → IsNegotiated platform es r claim fs

-- what a check of a file says yes to, whoever wrote it, is so negotiated
abbrev pub YesIsNegotiated : Type 0
YesIsNegotiated = (platform : PlatformFacts) (rs : List CallFacts) (objects : List Data)
    → Answers platform rs objects answers.Yes → AreNegotiated platform rs objects

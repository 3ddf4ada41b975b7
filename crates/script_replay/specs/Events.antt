-- What happens where a script's calls are made: the facts that the lines of a report tell.
use Rattle.std.specs.Prelude.{◌≡◌, ℕ, ◌+◌, ◌++◌, List, [], ◌∷◌, Option, Some, None, OnOk}
use Rattle.std.specs.Prelude.{Result, codes, flat_map, map, option_map}
use Rattle.std.specs.Arc.{arc_value}
use Rattle.sysmem_alloc.specs.Decision.{Claimed, answer_of, verdict_in}
use Rattle.sysmem_alloc.specs.Entry.{Decided as Enters}
use Rattle.sysmem_alloc.specs.History.{Allows}
use Rattle.sysmem_alloc.specs.State.{State as BookState, next_ready}
use Rattle.sysmem_image.specs.declared.size.Corner.{Corner}
use Rattle.sysmem_image.specs.Corners.{IsCorner}
use Rattle.verdict_claims.specs.declared.certificate.Claim.{Claim}
use Rattle.verdict_claims.specs.declared.verdict.Verdict.{Verdict}
use Rattle.verdict_claims.specs.declared.verdict.Verdict.TheVariants.{Chosen, IntersectionEmpty}
use Rattle.verdict_claims.specs.declared.verdict.Verdict.TheVariants.{TooMany}
use Rattle.verdict_claims.specs.declared.verdict.Verdict.TheVariants as verdicts
use Rattle.negotiation_inputs.specs.Platform.{PlatformFacts}
use Rattle.sysmem_tree.specs.Domain.{TreeFacts, newly_failed}
use Rattle.sysmem_tree.specs.Path.{path_of}
use Rattle.script_reading.specs.Script.{CallFacts}
use Rattle.script_reading.specs.Seen.{call_seen}
use Rattle.script_replay.specs.declared.event.Event.{Event}
use Rattle.script_replay.specs.declared.event.Events.{Events}
use Rattle.script_replay.specs.declared.event.Event.TheVariants.{Call, Domain}
use Rattle.script_replay.specs.declared.event.DomainFate.{DomainFate}
use Rattle.script_replay.specs.declared.event.DomainFate.TheVariants.{Decided, Failed, Pending}
use Rattle.script_replay.specs.declared.reply.Reply.{Reply}
use Rattle.script_replay.specs.Answer.{Replies}
use Rattle.script_replay.specs.Lines.{call_line, chosen_text, domain_line}
use Rattle.script_replay.specs.Report.{Certified, Gave, certified, pending_in, with_decision}
use Rattle.script_replay.specs.State.{RunState, collection_tree, first_run_state}

-- what becomes of a domain: it is decided by this claim, or by none where memory was wanted, with
-- the corner of what was chosen; it has failed; or it has no verdict
pub data FateFacts : Type 0 where
  decided : Option Claim → Corner → FateFacts
  failed : FateFacts
  pending : FateFacts

-- a call of this number, with its reply; and what becomes of a domain, by the path of its root
pub data EventFacts : Type 0 where
  called : ℕ → CallFacts → Reply → EventFacts
  becomes : List ℕ → FateFacts → EventFacts

-- what the program's stands for
abbrev pub fate_seen : DomainFate → FateFacts
fate_seen (Decided d) = decided (option_map (λ shared. arc_value shared) d.claim) d.corner
fate_seen Failed = failed
fate_seen Pending = pending

abbrev pub event_seen : Event → EventFacts
event_seen (Call c) = called c.number (call_seen c.call) c.reply
event_seen (Domain d) = becomes d.path (fate_seen d.fate)

-- what happened, in its order
abbrev pub events_of : Events → List EventFacts
events_of e = map event_seen e.list.items

-- ---- their lines

-- what a line says of a verdict, or of none where memory was wanted
abbrev pub verdict_text : PlatformFacts → Option Verdict → Corner → List ℕ
verdict_text platform (Some (Chosen chosen)) k = chosen_text platform chosen k
verdict_text platform (Some IntersectionEmpty) k = codes "empty"
verdict_text platform (Some TooMany) k = codes "too_many"
verdict_text platform (Some verdicts.Failed) k = codes "failed"
verdict_text platform (Some verdicts.NoMemory) k = codes "no_memory"
verdict_text platform None k = codes "no_memory"

-- what a line says of a domain
abbrev pub fate_text : PlatformFacts → FateFacts → List ℕ
fate_text platform (decided claim k) = verdict_text platform (verdict_in claim) k
fate_text platform failed = codes "failed"
fate_text platform pending = codes "pending"

-- the line of an event
abbrev pub line_of : PlatformFacts → EventFacts → List ℕ
line_of platform (called number r reply) = call_line number r reply
line_of platform (becomes path fate) = domain_line path (fate_text platform fate)

-- the text of a report of these events
abbrev pub events_text : PlatformFacts → List EventFacts → List ℕ
events_text platform events = flat_map (line_of platform) events

-- where the result is Ok, these events were added
abbrev pub Adds : {T E : Type 0} → Result T E → Events → Events → List EventFacts → Type 0
Adds result old new events = OnOk result (events_of new ≡ events_of old ++ events)

-- ---- which they are

-- a decision can have this verdict, or none where memory was wanted; and of settings that it chose
-- this is the corner
abbrev pub CanBeShown : Option Verdict → Corner → Type 0
CanBeShown (Some (Chosen chosen)) k = IsCorner chosen.settings.offer chosen.settings.bounds k
CanBeShown (Some IntersectionEmpty) k = Unit {0}
CanBeShown (Some TooMany) k = Unit {0}
CanBeShown (Some verdicts.Failed) k = ⊥
CanBeShown (Some verdicts.NoMemory) k = ⊥
CanBeShown None k = Unit {0}

-- what becomes of a domain that is decided by this claim, or by none
pub data IsDecidedBy (claim : Option Claim) : FateFacts → Type 0 where
  shows : (k : Corner) → CanBeShown (verdict_in claim) k → IsDecidedBy claim (decided claim k)

-- the domains that have failed in the new tree and hadn't in the old one, in order of creation of
-- their roots
abbrev pub failed_events : TreeFacts → TreeFacts → List EventFacts
failed_events old new = map (λ r. becomes (path_of new.nodes r) failed) (newly_failed old new)

-- a call, and the domains that it makes fail
abbrev pub call_events : ℕ → RunState → CallFacts → Reply → RunState → List EventFacts
call_events number s r reply t =
    called number r reply ∷ failed_events (collection_tree s) (collection_tree t)

-- a decision, and the domains that it makes fail
abbrev pub decision_events : RunState → Claimed → FateFacts → List EventFacts
decision_events s c fate = becomes (path_of (collection_tree s).nodes c.domain) fate
    ∷ failed_events (collection_tree s) (collection_tree (with_decision s (answer_of c)))

-- the domains without a verdict, in order of creation of their roots
abbrev pub pending_events : BookState → List EventFacts
pending_events b = map (λ r. becomes (path_of b.tree.nodes r) pending) (pending_in b)

-- calls from a state to another, each numbered and made where no domain waits; and decisions, each
-- of the first domain that waits, as the book allows it: what happens, and what was decided
pub data Happens : ℕ → RunState → List CallFacts → List EventFacts → List Certified → RunState
    → Type 0 where
  stays : (number : ℕ) (s : RunState) → Happens number s [] [] [] s
  calls : (number : ℕ) (s answered t : RunState) (r : CallFacts) (rs : List CallFacts)
      (reply : Reply)
      (events : List EventFacts) (cs : List Certified)
      → next_ready s.book ≡ None → Replies s r reply answered
      → Happens (number + 1) answered rs events cs t
      → Happens number s (r ∷ rs) (call_events number s r reply answered ++ events) cs t
  decides : (number : ℕ) (s t : RunState) (c : Claimed) (rs : List CallFacts) (fate : FateFacts)
      (events : List EventFacts)
      (cs : List Certified) → Allows s.platform s.book (Enters c)
      → IsDecidedBy c.claim fate
      → Happens number (with_decision s (answer_of c)) rs events cs t
      → Happens number s rs (decision_events s c fate ++ events) (certified s c ∷ cs) t

-- what happens where calls are made on a new collection, until no domain waits: it is left in this
-- state, and this is said of the decisions
pub record HappensTo (platform : PlatformFacts) (rs : List CallFacts) (says : Gave)
    (events : List EventFacts) (last : RunState) : Type 0 where
  pub decisions : List Certified
  pub happened : List EventFacts
  pub happens : Happens 1 (first_run_state platform) rs happened decisions last
  pub done : next_ready last.book ≡ None
  pub put : events ≡ happened ++ pending_events last.book
  pub gave : says decisions

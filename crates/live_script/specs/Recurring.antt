-- What the replay of a collection's calls comes to.
use Rattle.std.specs.Prelude.{◌≡◌, ◌+◌, ℕ, List, true, false, is_some}
use Rattle.std.specs.List.{AllByRecursion}
use Rattle.live_book.specs.Snapshot.{IsSettled, SnapshotFacts}
use Rattle.script_reading.specs.Script.{CallFacts}
use Rattle.script_replay.specs.Report.{Certified, Goes, IsReport, calls, decides, stays}
use Rattle.script_replay.specs.Report.{with_decision}
use Rattle.script_replay.specs.State.{RunState, first_run_state}
use Rattle.script_replay.specs.declared.reply.Reply.TheVariants.{Accepted}
use Rattle.sysmem_alloc.specs.Decision.{answer_of}
use Rattle.sysmem_alloc.specs.Entry.{BookEntry, Acted, Decided}
use Rattle.sysmem_alloc.specs.History.{replay}

-- memory wasn't refused to a decision
abbrev pub IsClaimed : BookEntry → Type 0
IsClaimed (Acted k deed) = Unit {0}
IsClaimed (Decided c) = is_some c.claim ≡ true

abbrev pub AreClaimed : List BookEntry → Type 0
AreClaimed es = AllByRecursion IsClaimed es

-- each call is accepted
abbrev pub AllAccepted : (number : ℕ) (s t : RunState) (rs : List CallFacts) (text : List ℕ)
    (cs : List Certified) → Goes number s rs text cs t → Type 0
AllAccepted _ _ _ _ _ _ (stays number s) = Unit {0}
AllAccepted _ _ _ _ _ _ (calls number s answered t r rs reply text cs idle replied rest) =
    (reply ≡ Accepted) × AllAccepted (number + 1) answered t rs text cs rest
AllAccepted _ _ _ _ _ _ (decides number s t c rs what text cs allowed tells rest) =
    AllAccepted number (with_decision s (answer_of c)) t rs text cs rest

-- in the report of these calls, where memory isn't refused, each is accepted, and they leave the
-- nodes as the collection has them, and each domain the verdict that it has there, in kind,
-- selection and settings
pub record ComesTo (s : SnapshotFacts) (rs : List CallFacts) (text : List ℕ) (cs : List Certified)
    (report : IsReport s.platform rs text cs false) : Type 0 where
  pub accepted : AllAccepted 1 (first_run_state s.platform) report.last rs report.lines cs report.goes
  pub state : report.last.book ≡ replay s.history

-- so does each report, where memory wasn't refused to a decision of the collection
abbrev pub Recurs : SnapshotFacts → List CallFacts → Type 0
Recurs s rs = AreClaimed s.history → (text : List ℕ) (cs : List Certified)
    → (report : IsReport s.platform rs text cs false) → ComesTo s rs text cs report

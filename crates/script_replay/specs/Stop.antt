-- Where decisions stop.
use Rattle.std.specs.Prelude.{◌≡◌, ℕ, ◌++◌, List, Some, ⊤, false}
use Rattle.sysmem_alloc.specs.State.{State as BookState, next_ready}
use Rattle.negotiation_inputs.specs.Platform.{PlatformFacts}
use Rattle.script_reading.specs.Script.{CallFacts}
use Rattle.script_replay.specs.declared.decider.Objection.{Objection}
use Rattle.script_replay.specs.declared.decider.Stop.{Stop}
use Rattle.script_replay.specs.declared.decider.Stop.TheVariants.{NoMemory, Refused}
use Rattle.script_replay.specs.Report.{Certified, Gave, Goes}
use Rattle.script_replay.specs.State.{RunState, first_run_state}

-- what holds of the objection, if there is one
abbrev pub IfObjects : Stop → (Objection → Type 0) → Type 0
IfObjects NoMemory P = ⊤
IfObjects (Refused objection) P = P objection

-- what a decider says where it objects at a domain
abbrev pub Objects : Type 1
Objects = PlatformFacts → BookState → ℕ → Objection → Type 0

-- some of the calls were made, with decisions, and lead to a state in which there is an
-- objection at the first domain that waits
pub record StopsIn (number : ℕ) (s : RunState) (rs : List CallFacts) (t : RunState) (old new : Gave)
    (objects : Objects) (objection : Objection) : Type 0 where
  pub made : List CallFacts
  pub left : List CallFacts
  pub split : rs ≡ made ++ left
  pub lines : List ℕ
  pub decisions : List Certified
  pub goes : Goes number s made lines decisions t
  pub gave : (cs : List Certified) → old cs → new (cs ++ decisions)
  pub domain : ℕ
  pub next : next_ready t.book ≡ Some domain
  pub object : objects t.platform t.book domain objection

-- the calls of a script come to an objection, where memory was not refused before
pub record IsStopped (platform : PlatformFacts) (rs : List CallFacts) (old new : Gave)
    (objects : Objects) (objection : Objection) : Type 0 where
  pub last : RunState
  pub stops : StopsIn 1 (first_run_state platform) rs last old new objects objection
  pub fed : last.starved ≡ false

-- What the parts of a runner say, for private clauses: from a state to another, with what happens
-- after what happened before.
use Rattle.std.specs.Prelude.{◌≡◌, ℕ, ◌++◌, List, [], ◌∷◌}
use Rattle.sysmem_alloc.specs.Decision.{Claimed, answer_of}
use Rattle.sysmem_alloc.specs.Entry.{Decided}
use Rattle.sysmem_alloc.specs.History.{Allows}
use Rattle.script_reading.specs.Script.{CallFacts}
use Rattle.script_replay.specs.Answer.{Replies}
use Rattle.script_replay.specs.Events.{EventFacts, FateFacts, Happens, IsDecidedBy}
use Rattle.script_replay.specs.Events.{call_events, decision_events}
use Rattle.script_replay.specs.Report.{Certified, Gave, certified, with_decision}
use Rattle.script_replay.specs.State.{RunState}
use Rattle.script_replay.specs.declared.reply.Reply.{Reply}

-- calls and decisions from a state to another, which happen after others
pub record GoesIn (number : ℕ) (s : RunState) (rs : List CallFacts) (t : RunState)
    (before after : List EventFacts) (old new : Gave) : Type 0 where
  pub events : List EventFacts
  pub decisions : List Certified
  pub goes : Happens number s rs events decisions t
  pub put : after ≡ before ++ events
  pub gave : (cs : List Certified) → old cs → new (cs ++ decisions)

-- a decision was entered, after what happened before
pub record EntersIn (s t : RunState) (claimed : Claimed) (before after : List EventFacts)
    : Type 0 where
  pub fate : FateFacts
  pub decided : IsDecidedBy claimed.claim fate
  pub entered : t ≡ with_decision s (answer_of claimed)
  pub put : after ≡ before ++ decision_events s claimed fate

-- a decision that the book allows was entered
pub record DecidesIn (s t : RunState) (before after : List EventFacts) (old new : Gave)
    : Type 0 where
  pub claimed : Claimed
  pub allowed : Allows s.platform s.book (Decided claimed)
  pub enters : EntersIn s t claimed before after
  pub gave : (cs : List Certified) → old cs → new (cs ++ certified s claimed ∷ [])

-- a reply, after what happened before
pub record RepliesIn (number : ℕ) (s : RunState) (r : CallFacts) (t : RunState)
    (before after : List EventFacts) : Type 0 where
  pub reply : Reply
  pub replies : Replies s r reply t
  pub put : after ≡ before ++ call_events number s r reply t

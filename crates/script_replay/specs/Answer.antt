-- What a call asks, and its reply.
use Rattle.std.specs.Prelude.{◌≡◌, ℕ, List, Bool, true, false, ◌&&◌, Option, Some, None, Ok}
use Rattle.std.specs.Prelude.{Err, slice_get, if◌then◌else◌}
use Rattle.serde_json.specs.Data.{Data}
use Rattle.sysmem_alloc.specs.Entry.{Acted}
use Rattle.sysmem_alloc.specs.State.{State as BookState, verdict_of}
use Rattle.verdict_claims.specs.declared.verdict.Verdict.{Verdict}
use Rattle.verdict_claims.specs.declared.verdict.Verdict.TheVariants.{Chosen, IntersectionEmpty}
use Rattle.verdict_claims.specs.declared.verdict.Verdict.TheVariants.{TooMany, Failed}
use Rattle.verdict_claims.specs.declared.verdict.Verdict.TheVariants as verdicts
use Rattle.record_reading.specs.declared.fault.Code.{Code}
use Rattle.record_reading.specs.declared.fault.Code.TheVariants.{WantOfMemory}
use Rattle.record_reading.specs.declared.fault.Fault.{Fault}
use Rattle.record_reading.specs.Faults.{lack_of}
use Rattle.negotiation_inputs.specs.Participant.{Participant}
use Rattle.record_reading.specs.Reading.{participant_of, participant_with}
use Rattle.sysmem_tree.specs.declared.refusal.Refusal.{Refusal}
use Rattle.sysmem_tree.specs.declared.refusal.Refusal.TheVariants as refusals
use Rattle.sysmem_tree.specs.declared.state.NodeKind.{NodeKind}
use Rattle.sysmem_tree.specs.declared.state.NodeKind.TheVariants.{Collection}
use Rattle.sysmem_tree.specs.ActionKind.{Deed}
use Rattle.sysmem_tree.specs.ActionKind as deeds
use Rattle.sysmem_tree.specs.Domain.{TreeFacts, is_selected}
use Rattle.sysmem_tree.specs.Node.{NodeFacts}
use Rattle.sysmem_tree.specs.Tree.{applied}
use Rattle.script_reading.specs.Call.{ActFacts, duplicates, binds, states, creates_group}
use Rattle.script_reading.specs.Call.{creates_child, has_all_children, attaches_token, releases}
use Rattle.script_reading.specs.Call.{closes, checks, waits}
use Rattle.script_reading.specs.Script.{CallFacts}
use Rattle.script_replay.specs.declared.reply.Reply.{Reply}
use Rattle.script_replay.specs.declared.reply.Reply.TheVariants.{Accepted, Refused, Misread}
use Rattle.script_replay.specs.declared.reply.Reply.TheVariants.{Skipped}
use Rattle.script_replay.specs.State.{RunState, collection_tree, node_named, unmade, acted}

-- the action that an act asks for, with the constraints that it states read
pub data AsksFor : ActFacts → Deed → Type 0 where
  to_duplicate : (name : List ℕ) → AsksFor (duplicates name) deeds.duplicates
  to_create_group : (name : List ℕ) → AsksFor (creates_group name) deeds.creates_group
  to_bind : AsksFor binds deeds.binds
  to_create_child : (name : List ℕ) → AsksFor (creates_child name) deeds.creates_child
  to_complete : AsksFor has_all_children deeds.has_all_children
  to_set_none : AsksFor (states None) (deeds.sets None)
  to_set : (d : Data) (asked : Participant) → participant_of d ≡ Ok asked
      → AsksFor (states (Some d)) (deeds.sets (Some asked))
  to_attach_token : (name : List ℕ) → AsksFor (attaches_token name) deeds.attaches_token
  to_release : AsksFor releases deeds.releases
  to_close : AsksFor closes deeds.closes

-- an act that asks for the verdict
pub data AsksVerdict : ActFacts → Type 0 where
  to_check : AsksVerdict checks
  to_wait : AsksVerdict waits

-- the answer by the verdict of a node's domain, where the node is among those that
-- settings were chosen for, or isn't
abbrev pub told_by : Bool → Option Verdict → Reply
told_by selected None = Refused refusals.Pending
told_by selected (Some Failed) = Refused refusals.DomainFailed
told_by selected (Some verdicts.NoMemory) = Refused refusals.NoMemory
told_by selected (Some IntersectionEmpty) = Refused refusals.ConstraintsIntersectionEmpty
told_by selected (Some TooMany) = Refused refusals.TooManyGroupChildCombinations
told_by true (Some (Chosen chosen)) = Accepted
told_by false (Some (Chosen chosen)) = Refused refusals.NotSelected

abbrev pub is_collection : NodeKind → Bool
is_collection Collection = true
is_collection _ = false

-- what a node is told: one that is no open collection a wrong state, else by the verdict
abbrev pub told_at : BookState → Option NodeFacts → Reply
told_at b None = Refused refusals.WrongState
told_at b (Some n) = if is_collection n.state.kind && n.state.is_open
    then told_by (is_selected b.tree.domains n) (verdict_of b n.domain)
    else Refused refusals.WrongState

-- what node k is told
abbrev pub told : BookState → ℕ → Reply
told b k = told_at b (slice_get b.tree.nodes k)

-- the reply to a call, and the state that it leaves before any decision
pub data Replies (s : RunState) (r : CallFacts) : Reply → RunState → Type 0 where
  skips : node_named s r ≡ None → Replies s r Skipped (unmade s r.act)
  misreads : (k : ℕ) (d : Data) (fault : Fault) → node_named s r ≡ Some k
      → r.act ≡ states (Some d) → participant_of d ≡ Err fault → Replies s r (Misread fault) s
  starves : (k : ℕ) (d : Data) (fault : Fault) → node_named s r ≡ Some k → r.act ≡ states (Some d)
      → fault.code ≡ WantOfMemory → participant_with (lack_of fault) d ≡ Err fault
      → Replies s r (Misread fault) (record s { starved = true })
  lacks : (k : ℕ) (d : Data) (asked : Participant) → node_named s r ≡ Some k
      → r.act ≡ states (Some d) → participant_of d ≡ Ok asked
      → Replies s r (Refused refusals.NoMemory) (record s { starved = true })
  refuses : (k : ℕ) (deed : Deed) (refusal : Refusal) → node_named s r ≡ Some k
      → AsksFor r.act deed → applied (collection_tree s) k deed ≡ Err refusal
      → Replies s r (Refused refusal) (unmade s r.act)
  accepts : (k made : ℕ) (deed : Deed) (tree : TreeFacts) → node_named s r ≡ Some k
      → AsksFor r.act deed
      → applied (collection_tree s) k deed ≡ Ok (record { tree = tree; node = made })
      → Replies s r Accepted (acted s r.act (Acted k deed) made)
  tells : (k : ℕ) → node_named s r ≡ Some k → AsksVerdict r.act → Replies s r (told s.book k) s

-- a reader's fault for want of memory
abbrev pub is_want : Code → Bool
is_want WantOfMemory = true
is_want _ = false

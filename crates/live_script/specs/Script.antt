-- The script of a collection.
use Rattle.std.specs.Prelude.{◌≡◌, ◌+◌, ◌<◌, ℕ, zero, suc, List, [], ◌∷◌, length, nat_le, Option, None, Ok}
use Rattle.std.specs.Prelude.{if◌then◌else◌, is_some, option_map}
use Rattle.live_book.specs.Snapshot.{SnapshotFacts}
use Rattle.live_script.specs.Recurring.{Recurs}
use Rattle.live_script.specs.declared.script.TheConstants.{MOST_NAMED_ACTORS}
use Rattle.negotiation_inputs.specs.Participant.{Participant}
use Rattle.node_names.specs.Names.{NamedNode, given_name, name_of}
use Rattle.record_laws.specs.Sparse.{participant_written}
use Rattle.script_reading.specs.Call.{ActFacts, attaches_token, binds, closes, creates_child}
use Rattle.script_reading.specs.Call.{creates_group, duplicates, has_all_children, releases, states}
use Rattle.script_reading.specs.Names.{root}
use Rattle.script_reading.specs.Script.{CallFacts, script_of}
use Rattle.script_reading.specs.Text.{Outcome, longest}
use Rattle.script_replay.specs.Answer.{AsksFor}
use Rattle.script_writing.specs.Call.{WrittenCall}
use Rattle.script_writing.specs.Script.{script_text}
use Rattle.sysmem_alloc.specs.Entry.{BookEntry, Acted, Decided}
use Rattle.sysmem_tree.specs.ActionKind.{Deed, kind_of}
use Rattle.sysmem_tree.specs.ActionKind as deeds
use Rattle.sysmem_tree.specs.Table.{makes}

-- what a node is called in a script: the root has no other name
abbrev pub called : List NamedNode → ℕ → List ℕ
called names zero = root
called names (suc k) = name_of names (suc k)

-- what a call does for an action, where the node that it makes, if it makes one, is the n-th
abbrev pub act_told : List NamedNode → ℕ → Deed → ActFacts
act_told names n deeds.duplicates = duplicates (called names n)
act_told names n deeds.creates_group = creates_group (called names n)
act_told names n deeds.binds = binds
act_told names n deeds.creates_child = creates_child (called names n)
act_told names n deeds.has_all_children = has_all_children
act_told names n (deeds.sets asked) = states (option_map participant_written asked)
act_told names n deeds.attaches_token = attaches_token (called names n)
act_told names n deeds.releases = releases
act_told names n deeds.closes = closes

-- the constraints that an action sets, if it sets any
abbrev pub asked_by : Deed → Option Participant
asked_by (deeds.sets asked) = asked
asked_by _ = None

-- how many nodes there are after an action
abbrev pub nodes_then : ℕ → Deed → ℕ
nodes_then n deed = if is_some (makes (kind_of deed)) then n + 1 else n

-- the actor that a call on node k names: what the node was given for a name, where few were given
-- one
abbrev pub actor_told : List NamedNode → ℕ → Option (List ℕ)
actor_told names k = if nat_le (length names) MOST_NAMED_ACTORS then given_name names k else None

-- the call of an action
abbrev pub call_told : List NamedNode → ℕ → ℕ → Deed → WrittenCall
call_told names n k deed = record {
  act = act_told names n deed;
  on = called names k;
  actor = actor_told names k;
}

-- the calls of a history before which there are n nodes
abbrev pub calls_told : List NamedNode → ℕ → List BookEntry → List WrittenCall
calls_told names n [] = []
calls_told names n (Acted k deed ∷ es) =
    call_told names n k deed ∷ calls_told names (nodes_then n deed) es
calls_told names n (Decided c ∷ es) = calls_told names n es

-- the text of a collection's script: its accepted calls, in their order
abbrev pub text_told : SnapshotFacts → List ℕ
text_told s = script_text s.platform (calls_told s.names 1 s.history)

-- it is longer than a script may be
abbrev pub IsTooLong : SnapshotFacts → Type 0
IsTooLong s = longest < length (text_told s)

-- a call of a script is this action on node k, by what that is called
pub record IsCallOf (names : List NamedNode) (k : ℕ) (deed : Deed)
    (call : CallFacts) : Type 0 where
  pub on : call.on ≡ called names k
  pub place : call.place ≡ k
  pub asks : AsksFor call.act deed

-- calls are the actions of a history, in their order
abbrev pub AreCallsOf : List NamedNode → List BookEntry → List CallFacts → Type 0
AreCallsOf names [] [] = Unit {0}
AreCallsOf names [] (r ∷ rs) = ⊥
AreCallsOf names (Acted k deed ∷ es) [] = ⊥
AreCallsOf names (Acted k deed ∷ es) (r ∷ rs) = IsCallOf names k deed r × AreCallsOf names es rs
AreCallsOf names (Decided c ∷ es) rs = AreCallsOf names es rs

-- a text spells the platform of a collection, and calls that are its actions
pub record ReadsBack (s : SnapshotFacts) (text : List ℕ) : Type 0 where
  pub calls : List CallFacts
  pub spelled : Outcome (λ value answer. script_of value ≡ answer) text
      (Ok (record { platform = s.platform; calls = calls }))
  pub own : AreCallsOf s.names s.history calls

-- a text is the script of a collection: it is that text, and read back as the platform and the
-- actions; and where these are replayed, all are accepted, and the collection comes to what it was
pub record IsScriptOf (s : SnapshotFacts) (text : List ℕ) : Type 0 where
  pub told : text ≡ text_told s
  pub back : ReadsBack s text
  pub recurs : Recurs s back.calls

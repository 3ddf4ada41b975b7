-- Histories of a book: the states that they lead to, and which are legal.
use Rattle.std.specs.Prelude.{◌≡◌, List, [], ◌∷◌, Some, Result, Ok, Err, IsOk, IfSome, map}
use Rattle.std.specs.List.{AllByRecursion}
use Rattle.negotiation_inputs.specs.Platform.{PlatformFacts}
use Rattle.sysmem_tree.specs.declared.refusal.Refusal.{Refusal}
use Rattle.sysmem_tree.specs.History as trees
use Rattle.sysmem_tree.specs.Tree.{Applied, applied, decided}
use Rattle.sysmem_alloc.specs.Claims.{IsRightClaim}
use Rattle.sysmem_alloc.specs.Decision.{answer_of, choices_of}
use Rattle.sysmem_alloc.specs.Entry.{BookEntry, Acted, Decided, tree_entry}
use Rattle.sysmem_alloc.specs.State.{State, first_state, next_ready}
use Rattle.sysmem_alloc.specs.State.{after_action, after_decision, base_of}

-- after the tree's answer to an action; a refusal leaves the state
abbrev pub after_answer : State → Result Applied Refusal → State
after_answer s (Ok made) = after_action s made.tree
after_answer s (Err refusal) = s

-- the state after an entry
abbrev pub after_entry : State → BookEntry → State
after_entry s (Acted i deed) = after_answer s (applied s.tree i deed)
after_entry s (Decided c) =
    after_decision s (answer_of c) (decided s.tree c.domain (choices_of (answer_of c).verdict))

-- after entries, the oldest first
abbrev pub replay_from : State → List BookEntry → State
replay_from s [] = s
replay_from s (e ∷ es) = replay_from (after_entry s e) es

-- the state that a history makes of a root token
abbrev pub replay : List BookEntry → State
replay es = replay_from first_state es

-- an action may be entered that the tree accepts; a decision, where it is of the
-- first domain that waits, with a claim that is right for it on what it is decided
-- on, or with none, for want of memory
abbrev pub Allows : PlatformFacts → State → BookEntry → Type 0
Allows platform s (Acted i deed) = IsOk (applied s.tree i deed)
Allows platform s (Decided c) =
    (next_ready s ≡ Some c.domain)
    × IfSome c.claim (IsRightClaim platform s.tree.nodes c.domain (base_of s c.domain))

-- each step enters what the state before it allows
pub record IsStep (platform : PlatformFacts) (old : State) (e : BookEntry)
    (new : State) : Type 0 where
  pub allowed : Allows platform old e
  pub leads : new ≡ after_entry old e

-- each entry is allowed by the state before it
abbrev pub AreAllowed : PlatformFacts → State → List BookEntry → Type 0
AreAllowed platform s [] = Unit {0}
AreAllowed platform s (e ∷ es) = Allows platform s e × AreAllowed platform (after_entry s e) es

abbrev pub IsLegal : PlatformFacts → List BookEntry → Type 0
IsLegal platform es = AreAllowed platform first_state es

-- no decision is among the entries
abbrev pub IsAction : BookEntry → Type 0
IsAction (Acted i deed) = Unit {0}
IsAction (Decided c) = ⊥

abbrev pub AreActions : List BookEntry → Type 0
AreActions es = AllByRecursion IsAction es

-- histories with the same actions at each path, constraints included
abbrev pub SameCalls : List BookEntry → List BookEntry → Type 0
SameCalls es fs = trees.SameCalls (map tree_entry es) (map tree_entry fs)

-- no node is closed before the initial domain's decision
abbrev pub NoEarlyClose : List BookEntry → Type 0
NoEarlyClose es = trees.NoEarlyClose (map tree_entry es)

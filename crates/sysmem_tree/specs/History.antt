-- Histories of actions and decisions, the trees that they lead to, and the logs of nodes.
use Rattle.std.specs.Prelude.{◌≡◌, ◌≢◌, ℕ, ◌==◌, Bool, true, false, List, [], ◌∷◌, Option}
use Rattle.std.specs.Prelude.{Some, None, Result, Ok, Err, IsOk, IfSome, option_map}
use Rattle.std.specs.Prelude.{unwrap_or, filter_map, if◌then◌else◌}
use Rattle.sysmem_tree.specs.declared.action.ActionKind.{ActionKind}
use Rattle.sysmem_tree.specs.declared.action.ActionKind.TheVariants.{Close}
use Rattle.sysmem_tree.specs.declared.refusal.Refusal.{Refusal}
use Rattle.sysmem_tree.specs.ActionKind.{Deed, kind_of}
use Rattle.sysmem_tree.specs.Domain.{TreeFacts, HasDomain, is_ready, is_undecided, decision_of}
use Rattle.sysmem_tree.specs.Forest.{Forest}
use Rattle.sysmem_tree.specs.Node.{NodeFacts}
use Rattle.sysmem_tree.specs.Path.{node_at}
use Rattle.sysmem_tree.specs.Selection.{IsSelection}
use Rattle.sysmem_tree.specs.Shape.{forest_of, by_number}
use Rattle.sysmem_tree.specs.Tree.{first_tree, Applied, applied, decided}

-- an action on a node, or a decision of the domain that a node roots: for the selection
-- that these choices make, or for none
pub data HistoryEntry : Type 0 where
  Acted : ℕ → Deed → HistoryEntry
  Decided : ℕ → Option (List ℕ) → HistoryEntry

-- a domain may be decided where it is ready and undecided: for one of its selections, or for none
pub record IsDecidable (t : TreeFacts) (r : ℕ) (choices : Option (List ℕ)) : Type 0 where
  pub there : HasDomain t.nodes r
  pub ready : is_ready t r ≡ true
  pub undecided : is_undecided (decision_of t.domains r) ≡ true
  pub selects : IfSome choices
      (λ cs. (e : Forest ℕ) × IsSelection (forest_of by_number t.nodes r []) cs e)

-- a tree accepts an entry
abbrev pub Accepts : TreeFacts → HistoryEntry → Type 0
Accepts t (Acted i deed) = IsOk (applied t i deed)
Accepts t (Decided r choices) = IsDecidable t r choices

-- a tree after an answer; a refusal leaves it
abbrev pub after_answer : TreeFacts → Result Applied Refusal → TreeFacts
after_answer t (Ok after) = after.tree
after_answer t (Err refusal) = t

-- a tree after an entry
abbrev pub after_entry : TreeFacts → HistoryEntry → TreeFacts
after_entry t (Acted i deed) = after_answer t (applied t i deed)
after_entry t (Decided r choices) = decided t r choices

-- a tree after entries, the oldest first
abbrev pub replay_from : TreeFacts → List HistoryEntry → TreeFacts
replay_from t [] = t
replay_from t (e ∷ es) = replay_from (after_entry t e) es

-- the tree that a history makes of a root token
abbrev pub replay : List HistoryEntry → TreeFacts
replay es = replay_from first_tree es

-- each entry is accepted by the tree before it
abbrev pub AreAccepted : TreeFacts → List HistoryEntry → Type 0
AreAccepted t [] = Unit {0}
AreAccepted t (e ∷ es) = Accepts t e × AreAccepted (after_entry t e) es

-- what an entry asks of node i
abbrev pub deed_on : ℕ → HistoryEntry → Option Deed
deed_on i (Acted k deed) = if k == i then Some deed else None
deed_on i (Decided r choices) = None

-- the actions on node i, the oldest first
abbrev pub log : List HistoryEntry → ℕ → List Deed
log es i = filter_map (deed_on i) es

-- the actions on the node at a path
abbrev pub log_in : List NodeFacts → List HistoryEntry → List ℕ → List Deed
log_in nodes es path = unwrap_or (option_map (log es) (node_at nodes path)) []

-- the actions that a history has at a path
abbrev pub log_at : List HistoryEntry → List ℕ → List Deed
log_at es path = log_in (replay es).nodes es path

-- histories with the same actions at each path, constraints included
abbrev pub SameCalls : List HistoryEntry → List HistoryEntry → Type 0
SameCalls es fs = (path : List ℕ) → log_at es path ≡ log_at fs path

abbrev pub is_close : ActionKind → Bool
is_close Close = true
is_close _ = false

-- no node is closed before the initial domain's decision
abbrev pub NoEarlyClose : List HistoryEntry → Type 0
NoEarlyClose [] = Unit {0}
NoEarlyClose (Acted i deed ∷ es) = (is_close (kind_of deed) ≡ false) × NoEarlyClose es
NoEarlyClose (Decided r choices ∷ es) = r ≢ 0 → NoEarlyClose es

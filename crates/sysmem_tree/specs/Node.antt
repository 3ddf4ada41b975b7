-- What a node of the tree is, and what its own actions made of it.
use Rattle.std.specs.Prelude.{ℕ, Bool, true, false, not, ◌||◌, Option}
use Rattle.negotiation_inputs.specs.Participant.{Participant}
use Rattle.sysmem_tree.specs.declared.node.Birth.{Birth}
use Rattle.sysmem_tree.specs.declared.state.NodeKind.{NodeKind}
use Rattle.sysmem_tree.specs.declared.state.NodeKind.TheVariants.{Token, Group, Collection}
use Rattle.sysmem_tree.specs.declared.state.NodeState.{NodeState}

-- an open node without children
abbrev pub fresh : NodeKind → NodeState
fresh kind =
    record { kind = kind; is_open = true; is_set = false; is_complete = false; children = 0 }

-- a decision waits for an open token, for a group that isn't complete, and for
-- an open collection that isn't set
abbrev pub awaits : NodeKind → NodeState → Bool
awaits Token s = s.is_open
awaits Group s = not s.is_complete
awaits Collection s = not (s.is_set || not s.is_open)

-- the same of a node in this state
abbrev pub is_awaited : NodeState → Bool
is_awaited s = awaits s.kind s

-- a node by its number in order of creation: which child of which node it is, but for the root;
-- the node that roots its domain; its state; the constraints that it set, if any; and whether
-- its domain's decision left it out
pub record NodeFacts : Type 0 where
  pub birth : Option Birth
  pub domain : ℕ
  pub state : NodeState
  pub constraints : Option Participant
  pub is_left_out : Bool

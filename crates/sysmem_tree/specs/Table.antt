-- The table of actions: which states of a node allow each, what it makes of its node,
-- and which node it makes below it.
use Rattle.std.specs.Prelude.{◌+◌, ◌==◌, Bool, true, false, ◌&&◌, not, Option, Some, None}
use Rattle.negotiation_inputs.specs.Participant.{Participant}
use Rattle.sysmem_tree.specs.declared.action.ActionKind.{ActionKind}
use Rattle.sysmem_tree.specs.declared.action.ActionKind.TheVariants.{Duplicate, CreateGroup}
use Rattle.sysmem_tree.specs.declared.action.ActionKind.TheVariants.{Bind, CreateChild}
use Rattle.sysmem_tree.specs.declared.action.ActionKind.TheVariants.{AllChildrenPresent}
use Rattle.sysmem_tree.specs.declared.action.ActionKind.TheVariants.{SetConstraints, AttachToken}
use Rattle.sysmem_tree.specs.declared.action.ActionKind.TheVariants.{Release, Close}
use Rattle.sysmem_tree.specs.declared.state.NodeKind.{NodeKind}
use Rattle.sysmem_tree.specs.declared.state.NodeKind.TheVariants.{Token, Group, Collection}
use Rattle.sysmem_tree.specs.declared.state.NodeState.{NodeState}
use Rattle.sysmem_tree.specs.ActionKind.{Deed, sets}
use Rattle.sysmem_tree.specs.Node.{fresh}

-- whether an open node of the kind allows the action in its state
abbrev pub suits_node : ActionKind → NodeKind → NodeState → Bool
suits_node Duplicate Token s = true
suits_node CreateGroup Token s = true
suits_node Bind Token s = true
suits_node CreateChild Group s = not s.is_complete
suits_node AllChildrenPresent Group s = not s.is_complete
suits_node SetConstraints Collection s = not s.is_set
suits_node AttachToken Collection s = true
suits_node Release Token s = true
suits_node Release Collection s = true
suits_node Release Group s = s.is_complete
suits_node Close _ s = true
suits_node _ _ s = false

-- whether the node's state allows the action
abbrev pub allows : ActionKind → NodeState → Bool
allows kind s = s.is_open && suits_node kind s.kind s

-- the action wants a child, and there is none
abbrev pub wants_child : ActionKind → NodeState → Bool
wants_child AllChildrenPresent s = s.children == 0
wants_child _ s = false

-- the state of its own node after the action
abbrev pub state_after : ActionKind → NodeState → NodeState
state_after Duplicate s = record s { children = s.children + 1 }
state_after CreateGroup s = record s { children = s.children + 1 }
state_after CreateChild s = record s { children = s.children + 1 }
state_after AttachToken s = record s { children = s.children + 1 }
state_after Bind s = record s { kind = Collection }
state_after AllChildrenPresent s = record s { is_complete = true }
state_after SetConstraints s = record s { is_set = true }
state_after Release s = record s { is_open = false }
state_after Close s = record s { is_open = false }

-- the constraints of its own node after the action
abbrev pub constraints_after : Deed → Option Participant → Option Participant
constraints_after (sets asked) old = asked
constraints_after _ old = old

-- the node that the action makes, if any: its node's last child
abbrev pub makes : ActionKind → Option NodeState
makes Duplicate = Some (fresh Token)
makes CreateGroup = Some (fresh Group)
makes CreateChild = Some (fresh Token)
makes AttachToken = Some (fresh Token)
makes _ = None

-- whether that node roots a domain of its own
abbrev pub makes_root : ActionKind → Bool
makes_root AttachToken = true
makes_root _ = false

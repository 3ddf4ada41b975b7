-- What a tree refuses an action on a node for: by what became of the node's domain, by the node's
-- state, and by the number of nodes.
use Rattle.std.specs.Prelude.{List, None, Option, Some, not, if◌then◌else◌}
use Rattle.sysmem_tree.specs.declared.action.ActionKind.{ActionKind}
use Rattle.sysmem_tree.specs.declared.refusal.Refusal.{Refusal}
use Rattle.sysmem_tree.specs.declared.refusal.Refusal.TheVariants.{DomainFailed, NotSelected}
use Rattle.sysmem_tree.specs.declared.refusal.Refusal.TheVariants.{WrongState, NoChildren}
use Rattle.sysmem_tree.specs.declared.refusal.Refusal.TheVariants.{TooManyNodes}
use Rattle.sysmem_tree.specs.declared.state.NodeState.{NodeState}
use Rattle.sysmem_tree.specs.ActionKind.{ends_node}
use Rattle.sysmem_tree.specs.Domain.{TreeFacts}
use Rattle.sysmem_tree.specs.Node.{NodeFacts}
use Rattle.sysmem_tree.specs.Table.{allows, wants_child}
use Rattle.sysmem_tree.specs.Tree.{has_room, is_barred}

-- what became of its domain refuses the actions on a node for, but for those that end it
abbrev pub fate_refusal : TreeFacts → NodeFacts → ActionKind → Option Refusal
fate_refusal t n kind =
    if ends_node kind then None
    else if is_barred t n.domain then Some DomainFailed
    else if n.is_left_out then Some NotSelected else None

-- the state of its node refuses an action for
abbrev pub state_refusal : NodeState → ActionKind → Option Refusal
state_refusal s kind =
    if not (allows kind s) then Some WrongState
    else if wants_child kind s then Some NoChildren else None

-- the number of nodes refuses an action for
abbrev pub room_refusal : List NodeFacts → ActionKind → Option Refusal
room_refusal nodes kind = if has_room nodes kind then None else Some TooManyNodes

-- the first of two refusals
abbrev pub first_of : Option Refusal → Option Refusal → Option Refusal
first_of None b = b
first_of (Some a) b = Some a

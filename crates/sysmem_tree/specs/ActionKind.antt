-- What an action asks of a node.
use Rattle.std.specs.Prelude.{ℕ, Bool, true, false, List, Option, None, codes, option_map}
use Rattle.std.specs.Arc.{arc_value}
use Rattle.negotiation_inputs.specs.Participant.{Participant}
use Rattle.sysmem_tree.specs.declared.action.Action.{Action}
use Rattle.sysmem_tree.specs.declared.action.Action.TheVariants as actions
use Rattle.sysmem_tree.specs.declared.action.ActionKind.{ActionKind}
use Rattle.sysmem_tree.specs.declared.action.ActionKind.TheVariants.{Duplicate, CreateGroup}
use Rattle.sysmem_tree.specs.declared.action.ActionKind.TheVariants.{Bind, CreateChild}
use Rattle.sysmem_tree.specs.declared.action.ActionKind.TheVariants.{AllChildrenPresent}
use Rattle.sysmem_tree.specs.declared.action.ActionKind.TheVariants.{SetConstraints, AttachToken}
use Rattle.sysmem_tree.specs.declared.action.ActionKind.TheVariants.{Release, Close}

-- an action, with the constraints that it sets, if any
pub data Deed : Type 0 where
  duplicates : Deed
  creates_group : Deed
  binds : Deed
  creates_child : Deed
  has_all_children : Deed
  sets : Option Participant → Deed
  attaches_token : Deed
  releases : Deed
  closes : Deed

-- what an action of the program stands for
abbrev pub deed_of : Action → Deed
deed_of actions.Duplicate = duplicates
deed_of actions.CreateGroup = creates_group
deed_of actions.Bind = binds
deed_of actions.CreateChild = creates_child
deed_of actions.AllChildrenPresent = has_all_children
deed_of (actions.SetConstraints shared) = sets (option_map (λ one. arc_value one) shared)
deed_of actions.AttachToken = attaches_token
deed_of actions.Release = releases
deed_of actions.Close = closes

-- the name of an action
abbrev pub action_name : ActionKind → List ℕ
action_name Duplicate = codes "duplicate"
action_name CreateGroup = codes "create_group"
action_name Bind = codes "bind"
action_name CreateChild = codes "create_child"
action_name AllChildrenPresent = codes "all_children_present"
action_name SetConstraints = codes "set_constraints"
action_name AttachToken = codes "attach_token"
action_name Release = codes "release"
action_name Close = codes "close"

-- what an action of a kind asks, without constraints
abbrev pub plain_deed : ActionKind → Deed
plain_deed Duplicate = duplicates
plain_deed CreateGroup = creates_group
plain_deed Bind = binds
plain_deed CreateChild = creates_child
plain_deed AllChildrenPresent = has_all_children
plain_deed SetConstraints = sets None
plain_deed AttachToken = attaches_token
plain_deed Release = releases
plain_deed Close = closes

-- which of the nine it is
abbrev pub kind_of : Deed → ActionKind
kind_of duplicates = Duplicate
kind_of creates_group = CreateGroup
kind_of binds = Bind
kind_of creates_child = CreateChild
kind_of has_all_children = AllChildrenPresent
kind_of (sets asked) = SetConstraints
kind_of attaches_token = AttachToken
kind_of releases = Release
kind_of closes = Close

-- whether it leaves its node gone; such an action is refused for no domain's sake
abbrev pub ends_node : ActionKind → Bool
ends_node Release = true
ends_node Close = true
ends_node _ = false

-- What an action and a decision make of a tree.
use Rattle.std.specs.Prelude.{ℕ, ◌+◌, ◌++◌, ◌==◌, Bool, false, ◌&&◌, ◌||◌, not, List, [], ◌∷◌}
use Rattle.std.specs.Prelude.{length, Option, Some, None, Result, Ok, Err, map, nat_le, is_some}
use Rattle.std.specs.Prelude.{slice_get, slice_set, if◌then◌else◌}
use Rattle.std.specs.List.{list_any}
use Rattle.sysmem_tree.specs.declared.action.ActionKind.{ActionKind}
use Rattle.sysmem_tree.specs.declared.action.ActionKind.TheVariants.{AttachToken, Close}
use Rattle.sysmem_tree.specs.declared.domain.Decision.{Decision}
use Rattle.sysmem_tree.specs.declared.domain.Decision.TheVariants.{Undecided, Chosen, NoneChosen}
use Rattle.sysmem_tree.specs.declared.domain.Domain.{Domain}
use Rattle.sysmem_tree.specs.declared.refusal.Refusal.{Refusal}
use Rattle.sysmem_tree.specs.declared.refusal.Refusal.TheVariants.{DomainFailed}
use Rattle.sysmem_tree.specs.declared.refusal.Refusal.TheVariants.{NotSelected, WrongState}
use Rattle.sysmem_tree.specs.declared.refusal.Refusal.TheVariants.{NoChildren, TooManyNodes}
use Rattle.sysmem_tree.specs.declared.state.NodeKind.TheVariants.{Token}
use Rattle.sysmem_tree.specs.declared.state.NodeState.{NodeState}
use Rattle.sysmem_tree.specs.ActionKind.{Deed, kind_of, ends_node}
use Rattle.sysmem_tree.specs.Domain.{TreeFacts, is_none_chosen, decision_of, has_failed, is_ready}
use Rattle.sysmem_tree.specs.Node.{fresh, NodeFacts}
use Rattle.sysmem_tree.specs.Shape.{members_of}
use Rattle.sysmem_tree.specs.Table.{allows, wants_child, state_after}
use Rattle.sysmem_tree.specs.Table.{constraints_after, makes, makes_root}
use Rattle.sysmem_tree.specs.declared.tree.TheConstants.{MOST_NODES}

-- the domain of a node that roots it
abbrev pub new_domain : ℕ → Domain
new_domain root = record { root = root; is_closed_early = false; decision = Undecided }

-- the root token
abbrev pub first_node : NodeFacts
first_node = record {
  birth = None;
  domain = 0;
  state = fresh Token;
  constraints = None;
  is_left_out = false;
}

-- the tree of a root token
abbrev pub first_tree : TreeFacts
first_tree = record { nodes = first_node ∷ []; domains = new_domain 0 ∷ [] }

-- the node after an action on it
abbrev pub node_after : Deed → NodeFacts → NodeFacts
node_after deed n = record n {
  state = state_after (kind_of deed) n.state;
  constraints = constraints_after deed n.constraints;
}

-- the node of this number that an action on node i makes: its last child, in its domain, or
-- in the one that the new node roots
abbrev pub new_node : ℕ → ℕ → NodeFacts → ActionKind → NodeState → NodeFacts
new_node number i n kind s = record {
  birth = Some (record { parent = i; ordinal = n.state.children });
  domain = if makes_root kind then number else n.domain;
  state = s;
  constraints = None;
  is_left_out = false;
}

-- if it makes any
abbrev pub nodes_made : ℕ → ℕ → NodeFacts → ActionKind → Option NodeState → List NodeFacts
nodes_made _ _ _ _ None = []
nodes_made number i n kind (Some s) = new_node number i n kind s ∷ []

-- the nodes after an action on node i
abbrev pub nodes_after : List NodeFacts → ℕ → NodeFacts → Deed → List NodeFacts
nodes_after nodes i n deed =
    slice_set nodes i (node_after deed n)
    ++ nodes_made (length nodes) i n (kind_of deed) (makes (kind_of deed))

-- a domain after a close in the domain of r before that is ready
abbrev pub closed_early : ℕ → Domain → Domain
closed_early r d = record d { is_closed_early = d.is_closed_early || (d.root == r) }

-- the domains after an action on a node: an attached token roots a new one, and a close of a node
-- marks its domain where that isn't ready
abbrev pub domains_after : TreeFacts → NodeFacts → ActionKind → List Domain
domains_after t n AttachToken = t.domains ++ new_domain (length t.nodes) ∷ []
domains_after t n Close =
    if is_ready t n.domain then t.domains else map (closed_early n.domain) t.domains
domains_after t n _ = t.domains

-- the tree after an action on node i, which is n
abbrev pub tree_after : TreeFacts → ℕ → NodeFacts → Deed → TreeFacts
tree_after t i n deed =
    record { nodes = nodes_after t.nodes i n deed; domains = domains_after t n (kind_of deed) }

-- actions in the domain of r are refused, but for those that end a node: it
-- failed, or no settings were chosen
abbrev pub is_barred : TreeFacts → ℕ → Bool
is_barred t r = has_failed t r || is_none_chosen (decision_of t.domains r)

-- a collection has at most 128 nodes
abbrev pub has_room : List NodeFacts → ActionKind → Bool
has_room nodes kind = not (is_some (makes kind)) || nat_le (length nodes + 1) MOST_NODES

-- an accepted action: the tree afterwards, and the node made or acted on
pub record Applied : Type 0 where
  pub tree : TreeFacts
  pub node : ℕ

-- the node that answers: the one that was made, or the one acted on
abbrev pub number_after : List NodeFacts → ℕ → ActionKind → ℕ
number_after nodes i kind = if is_some (makes kind) then length nodes else i

-- the action on what is node i: the first refusal in their order, or what it leads to
abbrev pub applied_at : TreeFacts → ℕ → Deed → Option NodeFacts → Result Applied Refusal
applied_at t i deed None = Err WrongState
applied_at t i deed (Some n) =
    if is_barred t n.domain && not (ends_node (kind_of deed)) then Err DomainFailed
    else if n.is_left_out && not (ends_node (kind_of deed)) then Err NotSelected
    else if not (allows (kind_of deed) n.state) then Err WrongState
    else if wants_child (kind_of deed) n.state then Err NoChildren
    else if not (has_room t.nodes (kind_of deed)) then Err TooManyNodes
    else Ok (record { tree = tree_after t i n deed; node = number_after t.nodes i (kind_of deed) })

-- an action on node i, by the tree as it is
abbrev pub applied : TreeFacts → ℕ → Deed → Result Applied Refusal
applied t i deed = applied_at t i deed (slice_get t.nodes i)

-- a domain after a decision of the one that r roots
abbrev pub decided_domain : ℕ → Decision → Domain → Domain
decided_domain r decision d = if d.root == r then record d { decision = decision } else d

-- the nodes after a decision that leaves all of the domain out but its members
abbrev pub left_out_but : List ℕ → ℕ → ℕ → List NodeFacts → List NodeFacts
left_out_but members r i [] = []
left_out_but members r i (n ∷ nodes) =
    record n {
      is_left_out = n.is_left_out
          || ((n.domain == r) && not (list_any (λ m. m == i) members));
    }
    ∷ left_out_but members r (i + 1) nodes

-- the tree after a decision of the domain that r roots: for the selection
-- that these choices make, or for none
abbrev pub decided : TreeFacts → ℕ → Option (List ℕ) → TreeFacts
decided t r None = record t { domains = map (decided_domain r NoneChosen) t.domains }
decided t r (Some cs) = record {
  nodes = left_out_but (members_of t.nodes r cs) r 0 t.nodes;
  domains = map (decided_domain r Chosen) t.domains;
}

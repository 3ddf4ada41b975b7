-- Paths: the ordinals of children, from the root to a node; and the
-- tree as a map from paths to nodes.
use Rattle.std.specs.Prelude.{ℕ, zero, suc, Bool, false, ◌&&◌, ◌==◌, ◌++◌, List, []}
use Rattle.std.specs.Prelude.{◌∷◌, Option, Some, None, option_map, option_and_then}
use Rattle.std.specs.Prelude.{position, slice_get, unwrap_or}
use Rattle.negotiation_inputs.specs.Participant.{Participant}
use Rattle.sysmem_tree.specs.declared.node.Birth.{Birth}
use Rattle.sysmem_tree.specs.declared.state.NodeState.{NodeState}
use Rattle.sysmem_tree.specs.Node.{NodeFacts}
use Rattle.sysmem_tree.specs.declared.tree.TheConstants.{MOST_NODES}

-- whether a node of this birth is this child of this parent
abbrev pub is_born : ℕ → ℕ → Option Birth → Bool
is_born parent ordinal None = false
is_born parent ordinal (Some birth) = (birth.parent == parent) && (birth.ordinal == ordinal)

-- this child of this parent
abbrev pub child_of : List NodeFacts → ℕ → ℕ → Option ℕ
child_of nodes parent ordinal = position (λ n. is_born parent ordinal n.birth) nodes

-- the node to which the ordinals lead from node i
abbrev pub led_to : List NodeFacts → ℕ → List ℕ → Option ℕ
led_to nodes i [] = Some i
led_to nodes i (ordinal ∷ path) =
    option_and_then (λ child. led_to nodes child path) (child_of nodes i ordinal)

-- the node at a path from the root
abbrev pub node_at : List NodeFacts → List ℕ → Option ℕ
node_at nodes path = led_to nodes 0 path

-- which child of which node node i is; none for the root
abbrev pub birth_of : List NodeFacts → ℕ → Option Birth
birth_of nodes i = option_and_then (λ n. n.birth) (slice_get nodes i)

-- the path of a node: its parent's, and behind it which child it is; of at most so many steps
abbrev pub path_within : ℕ → List NodeFacts → ℕ → List ℕ
path_within zero nodes i = []
path_within (suc steps) nodes i = unwrap_or
    (option_map (λ b. path_within steps nodes b.parent ++ b.ordinal ∷ []) (birth_of nodes i)) []

-- a node's path: no tree has more than 128 nodes
abbrev pub path_of : List NodeFacts → ℕ → List ℕ
path_of nodes i = path_within MOST_NODES nodes i

-- what the map shows of a node: its state, its constraints, and whether it
-- roots a domain; no numbers of nodes
pub record Shown : Type 0 where
  pub state : NodeState
  pub constraints : Option Participant
  pub is_domain_root : Bool

-- a node roots its domain where that has its number
abbrev pub shown_of : ℕ → NodeFacts → Shown
shown_of i n =
    record { state = n.state; constraints = n.constraints; is_domain_root = n.domain == i }

-- the tree as a map from paths to what is shown of nodes
abbrev pub at_path : List NodeFacts → List ℕ → Option Shown
at_path nodes path =
    option_and_then (λ i. option_map (shown_of i) (slice_get nodes i)) (node_at nodes path)

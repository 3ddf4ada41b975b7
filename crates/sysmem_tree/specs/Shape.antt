-- The forest of a domain, read off the nodes, and its shape.
use Rattle.std.specs.Prelude.{ℕ, ◌+◌, ◌++◌, ◌==◌, List, [], ◌∷◌, Option, Some, None, is_some}
use Rattle.std.specs.Prelude.{option_and_then, unwrap_or, filter, slice_get, if◌then◌else◌}
use Rattle.negotiation_inputs.specs.Participant.{Participant}
use Rattle.sysmem_tree.specs.declared.state.NodeKind.{NodeKind}
use Rattle.sysmem_tree.specs.declared.state.NodeKind.TheVariants as kinds
use Rattle.sysmem_tree.specs.Forest.{Forest, Empty, Plain, Group}
use Rattle.sysmem_tree.specs.Node.{NodeFacts}
use Rattle.sysmem_tree.specs.Nodes.{ordinal_under}
use Rattle.sysmem_tree.specs.Path.{path_of}
use Rattle.sysmem_tree.specs.Selection.{settled_by}

-- a way to label nodes, by their number, their path and themselves
abbrev pub Labels : Type 0 → Type 0
Labels A = ℕ → List ℕ → NodeFacts → A

-- a node with its children, and what comes after it; a group's children are alternatives
abbrev pub tree_of : {A : Type 0} → NodeKind → A → Forest A → Forest A → Forest A
tree_of kinds.Group label kids rest = Group label kids rest
tree_of kinds.Token label kids rest = Plain label kids rest
tree_of kinds.Collection label kids rest = Plain label kids rest

-- the ordinal of a node that is a child of p and in the domain
abbrev pub kid_of : ℕ → ℕ → NodeFacts → Option ℕ
kid_of domain p n = if n.domain == domain then ordinal_under p n.birth else None

-- a kid by its ordinal, if there is one, before the rest
abbrev pub before : {A : Type 0} → Option ℕ → (ℕ → Forest A → Forest A) → Forest A → Forest A
before None kid rest = rest
before (Some o) kid rest = kid o rest

-- the children of p in the domain among the nodes from number i on, in order of
-- creation, each with its own; path is p's
abbrev pub kids_from : {A : Type 0} → Labels A → ℕ → ℕ → List NodeFacts → ℕ → List ℕ → Forest A
kids_from label domain i [] p path = Empty
kids_from label domain i (n ∷ nodes) p path = before
    (kid_of domain p n)
    (λ o. tree_of n.state.kind (label i (path ++ o ∷ []) n)
    (kids_from label domain (i + 1) nodes i (path ++ o ∷ [])))
    (kids_from label domain (i + 1) nodes p path)

-- a root with its children
abbrev pub rooted : {A : Type 0} → Labels A → List NodeFacts → ℕ → List ℕ → Option NodeFacts
    → Forest A
rooted label nodes r path None = Empty
rooted label nodes r path (Some n) =
    tree_of n.state.kind (label r path n) (kids_from label r 0 nodes r path) Empty

-- the forest of the domain that node r, at this path, roots
abbrev pub forest_of : {A : Type 0} → Labels A → List NodeFacts → ℕ → List ℕ → Forest A
forest_of label nodes r path = rooted label nodes r path (slice_get nodes r)

-- by numbers; the path doesn't matter
abbrev pub by_number : Labels ℕ
by_number i path n = i

-- the members of the selection that these choices make in the domain of r, by number: the
-- nodes that no group choice excludes
abbrev pub members_of : List NodeFacts → ℕ → List ℕ → List ℕ
members_of nodes r cs = unwrap_or (settled_by (forest_of by_number nodes r []) cs) []

-- those of them with constraints
abbrev pub participants_of : List NodeFacts → ℕ → List ℕ → List ℕ
participants_of nodes r cs = filter
    (λ i. is_some (option_and_then (λ n. n.constraints) (slice_get nodes i)))
    (members_of nodes r cs)

-- what a shape shows of a node
pub record Member : Type 0 where
  pub path : List ℕ
  pub kind : NodeKind
  pub constraints : Option Participant

-- a shape shows no numbers of nodes
abbrev pub by_path : Labels Member
by_path i path n = record { path = path; kind = n.state.kind; constraints = n.constraints }

-- the shape of the domain that node r, at this path, roots: its paths, kinds and constraints
abbrev pub shape_at : List NodeFacts → ℕ → List ℕ → Forest Member
shape_at nodes r path = forest_of by_path nodes r path

-- a domain's shape
abbrev pub shape_of : List NodeFacts → ℕ → Forest Member
shape_of nodes r = shape_at nodes r (path_of nodes r)

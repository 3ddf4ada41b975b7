-- The members of a selection as nodes of the tree, and those that are marked.
use Rattle.std.specs.Prelude.{◌≡◌, ◌≢◌, ◌&&◌, ℕ, Bool, false, List, [], All, AllPairs, IsSomeAnd}
use Rattle.std.specs.Prelude.{get_or, is_some, option_and_then, option_map, slice_get, Option}
use Rattle.sysmem_tree.specs.Domain.{HasDomain}
use Rattle.sysmem_tree.specs.Laws.{IsSameDomain}
use Rattle.sysmem_tree.specs.Node.{NodeFacts}
use Rattle.sysmem_tree.specs.Nodes.{IsTree}
use Rattle.sysmem_tree.specs.Path.{path_of}
use Rattle.sysmem_tree.specs.declared.layout.Layout.{Layout}
use Rattle.sysmem_tree.specs.Layout.{IsLayout}
use Rattle.sysmem_tree.specs.Selection.{IsPrefix}
use Rattle.sysmem_tree.specs.Shape.{Member, by_number, by_path, forest_of, members_of}

-- nodes of the domain that r roots, each once
pub record AreItsNodes (nodes : List NodeFacts) (r : ℕ) (members : List ℕ) : Type 0 where
  pub own : All (λ i. IsSomeAnd (slice_get nodes i) (λ n. n.domain ≡ r)) members
  pub once : AllPairs (λ i j. i ≢ j) members

-- the members of a selection are nodes of its domain, each once
abbrev pub MembersStandOnce : Type 0
MembersStandOnce = (nodes : List NodeFacts) (r : ℕ) (cs : List ℕ) → IsTree nodes → HasDomain nodes r
    → AreItsNodes nodes r (members_of nodes r cs)

-- what is shown of node i in a shape: its path, its kind and its constraints
abbrev pub shown_at : List NodeFacts → ℕ → Option Member
shown_at nodes i = option_map (by_path i (path_of nodes i)) (slice_get nodes i)

-- where a domain stays the same, the members of its selections show what they did
abbrev pub MembersStay : Type 0
MembersStay = (old new : List NodeFacts) (r : ℕ) (cs : List ℕ) → IsTree old → IsTree new
    → HasDomain old r → HasDomain new r → IsSameDomain old new r
    → All (λ i. shown_at new i ≡ shown_at old i) (members_of old r cs)

-- whether a node is marked and has constraints
abbrev pub is_marked : List NodeFacts → List Bool → ℕ → Bool
is_marked nodes marks i =
    get_or marks i false && is_some (option_and_then (λ n. n.constraints) (slice_get nodes i))

-- the layout is that of the domain that r roots, and the choices are for its first groups
pub record IsChosenIn (nodes : List NodeFacts) (layout : Layout) (cs : List ℕ)
    (r : ℕ) : Type 0 where
  pub there : HasDomain nodes r
  pub lays : IsLayout layout (forest_of by_number nodes r [])
  pub prefix : IsPrefix (forest_of by_number nodes r []) cs

-- Links from node to node within a domain, and the forest that they lead through.
use Rattle.std.specs.Prelude.{◌≡◌, ◌≤◌, ◌<◌, ◌==◌, ℕ, ◌+◌, true, List, [], ◌∷◌, Option, Some, None}
use Rattle.std.specs.Prelude.{IsSomeAnd, is_some, option_map, drop, slice_get, if◌then◌else◌}
use Rattle.sysmem_tree.specs.declared.links.Links.{Links}
use Rattle.sysmem_tree.specs.declared.node.Birth.{Birth}
use Rattle.sysmem_tree.specs.Forest.{Forest, Empty}
use Rattle.sysmem_tree.specs.Node.{NodeFacts}
use Rattle.sysmem_tree.specs.Shape.{by_number, kid_of, kids_from}
use Rattle.sysmem_tree.specs.declared.tree.TheConstants.{MOST_NODES}

-- the parent of a node of the domain that r roots
abbrev pub parent_in : ℕ → NodeFacts → Option ℕ
parent_in r n = if n.domain == r then option_map (λ b. b.parent) n.birth else None

-- the first child of p in the domain that r roots, among the nodes from number i on
abbrev pub first_kid : ℕ → ℕ → ℕ → List NodeFacts → Option ℕ
first_kid r p i [] = None
first_kid r p i (n ∷ nodes) = if is_some (kid_of r p n) then Some i else first_kid r p (i + 1) nodes

-- for each node its first child in the domain that r roots, and for each child its next sibling
-- there, among the nodes from number i on
pub record AreLinks (nodes : List NodeFacts) (r i : ℕ) (links : Links) : Type 0 where
  pub first : (p : ℕ) → p < MOST_NODES
      → slice_get links.first p ≡ Some (first_kid r p i (drop i nodes))
  pub next : (k p : ℕ) (n : NodeFacts) → i ≤ k → slice_get nodes k ≡ Some n
      → is_some (kid_of r p n) ≡ true
      → slice_get links.next k ≡ Some (first_kid r p (k + 1) (drop (k + 1) nodes))

-- node i is one of the domain that r roots, but not r
pub record IsBelow (nodes : List NodeFacts) (r i : ℕ) : Type 0 where
  pub later : r < i
  pub inside : IsSomeAnd (slice_get nodes i) (λ n. n.domain ≡ r)

-- the parent of a node of this birth
abbrev pub parent_of : Option Birth → ℕ
parent_of None = 0
parent_of (Some b) = b.parent

-- node i, if it is there, and the siblings that follow it in its domain, each with what is below it
abbrev pub with_siblings : List NodeFacts → ℕ → Option NodeFacts → Forest ℕ
with_siblings nodes i None = Empty
with_siblings nodes i (Some n) =
    kids_from by_number n.domain i (drop i nodes) (parent_of n.birth) []

-- the same of the node that a link names, if it names one
abbrev pub siblings_from : List NodeFacts → Option ℕ → Forest ℕ
siblings_from nodes None = Empty
siblings_from nodes (Some i) = with_siblings nodes i (slice_get nodes i)

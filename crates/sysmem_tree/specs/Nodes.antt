-- What is true of the nodes of each tree.
use Rattle.std.specs.Prelude.{◌≡◌, ◌≤◌, ◌<◌, ◌+◌, ◌==◌, ◌⊎◌, ℕ, zero, suc, true, false}
use Rattle.std.specs.Prelude.{List, [], ◌∷◌, length, Option, Some, None, IsSomeAnd}
use Rattle.std.specs.Prelude.{slice_get, filter_map, if◌then◌else◌}
use Rattle.sysmem_tree.specs.declared.node.Birth.{Birth}
use Rattle.sysmem_tree.specs.declared.state.NodeKind.TheVariants.{Group, Collection}
use Rattle.sysmem_tree.specs.Node.{NodeFacts}
use Rattle.sysmem_tree.specs.declared.tree.TheConstants.{MOST_NODES}

-- the number is one of the nodes'
abbrev pub HasNode : List NodeFacts → ℕ → Type 0
HasNode nodes i = i < length nodes

-- the ordinal of a node of this birth, where it is a child of the parent
abbrev pub ordinal_under : ℕ → Option Birth → Option ℕ
ordinal_under parent None = None
ordinal_under parent (Some b) = if b.parent == parent then Some b.ordinal else None

-- the ordinals of a node's children, in order of creation
abbrev pub ordinals : ℕ → List NodeFacts → List ℕ
ordinals parent nodes = filter_map (λ n. ordinal_under parent n.birth) nodes

-- the numbers from one on, so many
abbrev pub count_from : ℕ → ℕ → List ℕ
count_from a zero = []
count_from a (suc many) = a ∷ count_from (a + 1) many

-- which domain a child is in: its parent's, or the one that it roots, as
-- a token attached to a collection
abbrev pub IsPlaced : ℕ → NodeFacts → NodeFacts → Type 0
IsPlaced k n parent =
    (n.domain ≡ parent.domain) ⊎ ((n.domain ≡ k) × (parent.state.kind ≡ Collection))

-- 1 to 128 nodes: first the root, which is nobody's child; each other is a child, made after its
-- parent. A node's children are numbered 0, 1, 2 .. in order of creation, as many as it made.
pub record IsTree (nodes : List NodeFacts) : Type 0 where
  pub few : length nodes ≤ MOST_NODES
  pub root : IsSomeAnd (slice_get nodes 0) (λ n. (n.birth ≡ None) × (n.domain ≡ 0))
  pub child : (k : ℕ) (n : NodeFacts) → slice_get nodes (suc k) ≡ Some n
      → IsSomeAnd n.birth (λ b. b.parent ≤ k)
  pub numbered : (i : ℕ) (n : NodeFacts) → slice_get nodes i ≡ Some n
      → ordinals i nodes ≡ count_from 0 n.state.children
  pub placed : (k : ℕ) (n parent : NodeFacts) (b : Birth) → slice_get nodes k ≡ Some n
      → n.birth ≡ Some b → slice_get nodes b.parent ≡ Some parent → IsPlaced k n parent

-- only a collection is set, only a set node has constraints, and only
-- a group with a child is complete
pub record IsProper (n : NodeFacts) : Type 0 where
  pub set : n.state.is_set ≡ true → n.state.kind ≡ Collection
  pub constrained : n.state.is_set ≡ false → n.constraints ≡ None
  pub complete : n.state.is_complete ≡ true → (n.state.kind ≡ Group) × (0 < n.state.children)

abbrev pub AreProper : List NodeFacts → Type 0
AreProper nodes = (k : ℕ) (n : NodeFacts) → slice_get nodes k ≡ Some n → IsProper n

-- What a search reads off a domain's layout: the first open group after choices, the place of each
-- of its children, and what that settles.
use Rattle.std.specs.Prelude.{◌≡◌, ◌<◌, ℕ, zero, suc, ◌+◌, List, [], ◌∷◌, Option, Some, None}
use Rattle.std.specs.Prelude.{length, nat_lt, slice_get, if◌then◌else◌}
use Rattle.sysmem_tree.specs.declared.layout.Layout.{Layout}
use Rattle.sysmem_tree.specs.declared.layout.LayoutPlace.{LayoutPlace}
use Rattle.sysmem_tree.specs.declared.open_groups.SettledNodes.{SettledNodes}
use Rattle.sysmem_tree.specs.Forest.{Forest, Empty, Plain, Group, each, relabel, settled}
use Rattle.sysmem_tree.specs.Layout.{Spot, start, first_place, HoldNumbers}
use Rattle.sysmem_tree.specs.Node.{NodeFacts}
use Rattle.sysmem_tree.specs.Prefix.{Alternatives, AreAlternatives, next_alternatives, AreOpen}
use Rattle.sysmem_tree.specs.Selection.{after}
use Rattle.sysmem_tree.specs.declared.tree.TheConstants.{MOST_NODES}

-- the layout names none but these nodes
abbrev pub HoldsNodes : Layout → List NodeFacts → Type 0
HoldsNodes layout nodes = HoldNumbers (length nodes) layout.places

-- the node of a spot
abbrev pub node_of : Spot → ℕ
node_of s = s.node

-- what choices leave of a domain's forest, by places: the groups that are open stand in the layout
pub record Leaves (layout : Layout) (d : Forest ℕ) (cs : List ℕ) (left : Forest Spot) : Type 0 where
  pub leads : after d cs ≡ Some (relabel node_of left)
  pub stands : AreOpen layout.places left None

-- the place of the group that is the first open one after these
-- choices; none where they are a selection
pub record IsFirstOpen (layout : Layout) (d : Forest ℕ) (cs : List ℕ) (at : Option ℕ) : Type 0 where
  pub left : Forest Spot
  pub leaves : Leaves layout d cs left
  pub first : at ≡ first_place left

-- the place of the child that choice k takes for the first open group after these choices
pub record IsChildPlace (layout : Layout) (d : Forest ℕ) (cs : List ℕ) (k at : ℕ) : Type 0 where
  pub left : Forest Spot
  pub leaves : Leaves layout d cs left
  pub group : Alternatives Spot
  pub first : next_alternatives left ≡ Some group
  pub kid : Forest Spot
  pub is_kid : slice_get (each group.kids) k ≡ Some kid
  pub here : start kid 0 ≡ at

-- a child of some group of the layout stands at this place
pub record HasChild (layout : Layout) (at : ℕ) : Type 0 where
  pub first : ℕ
  pub kids : Forest Spot
  pub alternatives : AreAlternatives layout.places first kids
  pub number : ℕ
  pub kid : Forest Spot
  pub is_kid : slice_get (each kids) number ≡ Some kid
  pub here : start kid 0 ≡ at

-- the node at a place, what stands below it, and what stands behind that before `to`
abbrev pub with_below : (ℕ → ℕ → Forest ℕ) → ℕ → ℕ → Option LayoutPlace → Forest ℕ
with_below between at to None = Empty
with_below between at to (Some p) =
    if p.is_group then Group p.node (between (at + 1) p.end) (between p.end to)
    else Plain p.node (between (at + 1) p.end) (between p.end to)

-- the forest that stands from a place on, before `to`, where those are at most so many places
abbrev pub forest_between : ℕ → List LayoutPlace → ℕ → ℕ → Forest ℕ
forest_between zero places at to = Empty
forest_between (suc many) places at to =
    if nat_lt at to then with_below (forest_between many places) at to (slice_get places at)
    else Empty

-- the place behind all that is below the node at a place
abbrev pub end_of : Option LayoutPlace → ℕ
end_of None = 0
end_of (Some p) = p.end

-- the tree that stands at a place, alone
abbrev pub tree_at : Layout → ℕ → Forest ℕ
tree_at layout at = forest_between MOST_NODES layout.places at (end_of (slice_get layout.places at))

-- the nodes that the choice of the child at this place settles, in
-- pre-order, whatever was chosen elsewhere
abbrev pub share_of : Layout → ℕ → List ℕ
share_of layout at = settled (tree_at layout at)

-- the place that follows one in a walk over settled nodes, past what is below a group
abbrev pub place_after : LayoutPlace → ℕ → ℕ
place_after p at = if p.is_group then p.end else at + 1

-- a walk from a place on gives these nodes, and ends at `to`
abbrev pub WalksTo : List LayoutPlace → ℕ → ℕ → List ℕ → Type 0
WalksTo places at to [] = at ≡ to
WalksTo places at to (n ∷ ns) =
    (at < to)
    × ((p : LayoutPlace) × (slice_get places at ≡ Some p) × (p.node ≡ n) × (at < place_after p at)
    × WalksTo places (place_after p at) to ns)

-- the nodes that a walk over the layout has yet to give
abbrev pub HasLeft : Layout → SettledNodes → List ℕ → Type 0
HasLeft layout walk ns = WalksTo layout.places walk.at walk.end ns

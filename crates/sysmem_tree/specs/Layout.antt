-- A domain's forest laid out in a list of places, in pre-order.
use Rattle.std.specs.Prelude.{◌≡◌, ◌≤◌, ◌<◌, ℕ, suc, ◌+◌, Bool, true, false, List, Option, Some}
use Rattle.std.specs.Prelude.{None, length, slice_get}
use Rattle.std.specs.Option.{option_or}
use Rattle.sysmem_tree.specs.declared.layout.Layout.{Layout}
use Rattle.sysmem_tree.specs.declared.layout.LayoutPlace.{LayoutPlace}
use Rattle.sysmem_tree.specs.declared.layout.LaidNodes.{LaidNodes}
use Rattle.sysmem_tree.specs.declared.state.NodeKind.{NodeKind}
use Rattle.sysmem_tree.specs.declared.state.NodeKind.TheVariants.{Token, Group, Collection}
use Rattle.sysmem_tree.specs.Forest.{Forest, Empty, Plain, each, relabel, count, count_each}
use Rattle.sysmem_tree.specs.Forest as forest
use Rattle.sysmem_tree.specs.declared.tree.TheConstants.{MOST_NODES}

-- whether a node's children are alternatives
abbrev pub is_group : NodeKind → Bool
is_group Group = true
is_group Token = false
is_group Collection = false

-- how many selections of nodes that are all there, or of alternatives
abbrev pub count_as : {A : Type 0} → Bool → Forest A → ℕ
count_as true d = count_each d
count_as false d = count d

-- how many nodes a forest has
abbrev pub size : {A : Type 0} → Forest A → ℕ
size Empty = 0
size (Plain n kids rest) = suc (size kids + size rest)
size (forest.Group n kids rest) = suc (size kids + size rest)

-- a node and its place
pub record Spot : Type 0 where
  pub place : ℕ
  pub node : ℕ

-- the place where a forest starts that ends before the place `to`
abbrev pub start : Forest Spot → ℕ → ℕ
start Empty to = to
start (Plain s kids rest) to = s.place
start (forest.Group s kids rest) to = s.place

-- the place of the first group in pre-order
abbrev pub first_place : Forest Spot → Option ℕ
first_place Empty = None
first_place (Plain s kids rest) = option_or (first_place kids) (first_place rest)
first_place (forest.Group s kids rest) = Some s.place

-- the first group behind a tree whose neighbours are alternatives, or are all there, where
-- `next` is the first one behind them
abbrev pub behind : Bool → Forest Spot → Option ℕ → Option ℕ
behind true rest next = next
behind false rest next = option_or (first_place rest) next

-- the place of a node: its children start just behind it and end before `to`, and `next` is the
-- first group once the way to it is chosen
pub record IsLaidPlace (places : List LayoutPlace) (s : Spot) (is_group : Bool) (kids : Forest Spot)
    (to : ℕ) (next : Option ℕ) : Type 0 where
  pub here : slice_get places s.place
      ≡ Some (record {
        node = s.node;
        is_group = is_group;
        children = length (each kids);
        end = to;
        next = next;
      })
  pub kids_here : start kids to ≡ s.place + 1

-- the places before `to` hold a forest of nodes that are all there, or of alternatives, in
-- pre-order; `next` is the first group behind them
abbrev pub AreLaid : Bool → List LayoutPlace → Forest Spot → ℕ → Option ℕ → Type 0
AreLaid alternatives places Empty to next = Unit {0}
AreLaid alternatives places (Plain s kids rest) to next =
    IsLaidPlace places s false kids (start rest to)
    (option_or (first_place kids) (behind alternatives rest next))
    × AreLaid false places kids (start rest to) (behind alternatives rest next)
    × AreLaid alternatives places rest to next
AreLaid alternatives places (forest.Group s kids rest) to next =
    IsLaidPlace places s true kids (start rest to) (Some s.place)
    × AreLaid true places kids (start rest to) (behind alternatives rest next)
    × AreLaid alternatives places rest to next

-- the places name no nodes but the first so many
abbrev pub HoldNumbers : ℕ → List LayoutPlace → Type 0
HoldNumbers many places = (k : ℕ) (p : LayoutPlace) → slice_get places k ≡ Some p → p.node < many

-- the forest of these numbers of nodes was laid out before `to`
pub record Lays (alternatives : Bool) (places : List LayoutPlace) (d : Forest ℕ) (laid : LaidNodes) (to : ℕ)
    (next : Option ℕ) : Type 0 where
  pub spots : Forest Spot
  pub numbers : relabel (λ (s : Spot). s.node) spots ≡ d
  pub starts : start spots to ≡ laid.start
  pub long : laid.start + size d ≡ to
  pub many : length (each spots) ≡ laid.children
  pub few : laid.start + laid.children ≤ to
  pub goes_on : behind alternatives spots next ≡ laid.next
  pub places_laid : AreLaid alternatives places spots to next

-- the places from the start on hold the forest of these numbers of nodes
pub record IsLayout (layout : Layout) (d : Forest ℕ) : Type 0 where
  pub spots : Forest Spot
  pub numbers : relabel (λ (s : Spot). s.node) spots ≡ d
  pub starts : start spots MOST_NODES ≡ layout.start
  pub within : layout.start < MOST_NODES
  pub laid : AreLaid false layout.places spots MOST_NODES None

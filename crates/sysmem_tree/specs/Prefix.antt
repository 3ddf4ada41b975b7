-- The next group of a forest, and where it stands in a layout.
use Rattle.std.specs.Prelude.{◌≡◌, ◌≤◌, ℕ, List, Option, Some, None, true}
use Rattle.std.specs.Option.{option_or}
use Rattle.sysmem_tree.specs.declared.layout.LayoutPlace.{LayoutPlace}
use Rattle.sysmem_tree.specs.Forest.{Forest, Empty, Plain, Group}
use Rattle.sysmem_tree.specs.Layout.{Spot, start, first_place, IsLaidPlace, AreLaid}
use Rattle.sysmem_tree.specs.declared.tree.TheConstants.{MOST_NODES}

-- a group and its alternatives
pub record Alternatives (A : Type 0) : Type 0 where
  pub group : A
  pub kids : Forest A

-- the first group in pre-order
abbrev pub next_alternatives : {A : Type 0} → Forest A → Option (Alternatives A)
next_alternatives Empty = None
next_alternatives (Plain n kids rest) = option_or (next_alternatives kids) (next_alternatives rest)
next_alternatives (Group n kids rest) = Some (record { group = n; kids = kids })

-- the groups that are left stand in the layout; `next` is the first one behind them
abbrev pub AreOpen : List LayoutPlace → Forest Spot → Option ℕ → Type 0
AreOpen places Empty next = Unit {0}
AreOpen places (Plain s kids rest) next =
    AreOpen places kids (option_or (first_place rest) next) × AreOpen places rest next
AreOpen places (Group s kids rest) next =
    ((to : ℕ) × (to ≤ MOST_NODES) × IsLaidPlace places s true kids to (Some s.place)
    × AreLaid true places kids to (option_or (first_place rest) next))
    × AreOpen places rest next

-- alternatives that stand from a place on
pub record AreAlternatives (places : List LayoutPlace) (at : ℕ) (kids : Forest Spot) : Type 0 where
  pub to : ℕ
  pub next : Option ℕ
  pub small : to ≤ MOST_NODES
  pub starts : start kids to ≡ at
  pub laid : AreLaid true places kids to next

-- What a search may rest on: what each choice settles, how far choices go, and where they lead.
use Rattle.std.specs.Prelude.{◌≡◌, ◌<◌, ◌≤◌, ◌↔◌, ◌++◌, ℕ, true, List, [], ◌∷◌, length, Option}
use Rattle.std.specs.Prelude.{Some, None, Ok, IfSome, IsPermutation, Contains, is_some, map}
use Rattle.std.specs.Prelude.{option_map, slice_get, if◌then◌else◌}
use Rattle.sysmem_tree.specs.declared.action.ActionKind.{ActionKind}
use Rattle.sysmem_tree.specs.declared.layout.Layout.{Layout}
use Rattle.sysmem_tree.specs.ActionKind.{Deed, kind_of}
use Rattle.sysmem_tree.specs.Domain.{TreeFacts, HasDomain, is_ready, IsSoundTree}
use Rattle.sysmem_tree.specs.Forest.{Forest, choices, settled, relabel, first_group}
use Rattle.sysmem_tree.specs.Node.{NodeFacts}
use Rattle.sysmem_tree.specs.Nodes.{IsTree}
use Rattle.sysmem_tree.specs.OpenGroups.{IsFirstOpen, IsChildPlace, share_of}
use Rattle.sysmem_tree.specs.Path.{node_at}
use Rattle.sysmem_tree.specs.Selection.{after, IsPrefix, IsSelection}
use Rattle.sysmem_tree.specs.Shape.{Member, by_number, forest_of, shape_of}
use Rattle.sysmem_tree.specs.Table.{makes}
use Rattle.sysmem_tree.specs.Tree.{Applied, applied}
use Rattle.sysmem_tree.specs.declared.tree.TheConstants.{MOST_NODES}

-- a choice leads on, and settles the share of the child at this place beside
-- what was settled, whatever the order
pub record Settles (layout : Layout) (d : Forest ℕ) (cs : List ℕ) (k at : ℕ) : Type 0 where
  pub left : Forest ℕ
  pub leads : after d (cs ++ k ∷ []) ≡ Some left
  pub adds : IfSome (after d cs)
      (λ e. IsPermutation (settled e ++ share_of layout at) (settled left))

abbrev pub ChoiceSettlesShare : Type 0
ChoiceSettlesShare = (layout : Layout) (d : Forest ℕ) (cs : List ℕ) (k at : ℕ)
    → IsChildPlace layout d cs k at → Settles layout d cs k at

-- choices after which a first open group is known are a prefix, and a
-- selection exactly where there is none
pub record AreWholeWithout (d : Forest ℕ) (cs : List ℕ) (at : Option ℕ) : Type 0 where
  pub left : Forest ℕ
  pub leads : after d cs ≡ Some left
  pub whole : (at ≡ None) ↔ (choices left ≡ None)

abbrev pub NoneOpenIsSelection : Type 0
NoneOpenIsSelection = (layout : Layout) (d : Forest ℕ) (cs : List ℕ) (at : Option ℕ)
    → IsFirstOpen layout d cs at → AreWholeWithout d cs at

-- the choices for the first group are its children, and no others
abbrev pub ChildrenAreChoices : Type 0
ChildrenAreChoices = (d e : Forest ℕ) (cs : List ℕ) (k group children : ℕ) → after d cs ≡ Some e
    → first_group e ≡ Some (group, children) → IsPrefix d (cs ++ k ∷ []) ↔ (k < children)

-- the first group is itself settled
abbrev pub FirstGroupIsSettled : Type 0
FirstGroupIsSettled = (d : Forest ℕ) (group children : ℕ) → first_group d ≡ Some (group, children)
    → Contains (settled d) group

-- a domain has at most 128 choices, one after the other
abbrev pub FewChoices : Type 0
FewChoices = (nodes : List NodeFacts) (r : ℕ) (cs : List ℕ) → IsTree nodes
    → IsPrefix (forest_of by_number nodes r []) cs → length cs ≤ MOST_NODES

-- a group of a domain has at most 128 children
abbrev pub FewChildren : Type 0
FewChildren = (nodes : List NodeFacts) (r : ℕ) (cs : List ℕ) (e : Forest ℕ) (group children : ℕ)
    → IsTree nodes → after (forest_of by_number nodes r []) cs ≡ Some e
    → first_group e ≡ Some (group, children) → children ≤ MOST_NODES

-- a number and a member of a shape, for one node
abbrev pub Both : Type 0
Both = ℕ × Member

abbrev pub number : Both → ℕ
number both = both.0

abbrev pub member : Both → Member
member both = both.1

-- what choices leave of a domain by numbers and of its shape is one forest under two kinds of
-- labels, or nothing in both; so are its settled nodes, and its first group
pub record LeaveOneForest (nodes : List NodeFacts) (r : ℕ) (cs : List ℕ) : Type 0 where
  pub left : Option (Forest Both)
  pub numbers : after (forest_of by_number nodes r []) cs ≡ option_map (relabel number) left
  pub members : after (shape_of nodes r) cs ≡ option_map (relabel member) left
  pub settled_numbers : IfSome left (λ b. settled (relabel number b) ≡ map number (settled b))
  pub settled_members : IfSome left (λ b. settled (relabel member b) ≡ map member (settled b))
  pub group_number : IfSome left
      (λ b. first_group (relabel number b) ≡ option_map (λ g. (number g.0, g.1)) (first_group b))
  pub group_member : IfSome left
      (λ b. first_group (relabel member b) ≡ option_map (λ g. (member g.0, g.1)) (first_group b))

abbrev pub ChoicesLeaveOneForest : Type 0
ChoicesLeaveOneForest = (nodes : List NodeFacts) (r : ℕ) (cs : List ℕ) → LeaveOneForest nodes r cs

-- choices that go on to a selection
pub record LeadOn (d : Forest ℕ) (cs : List ℕ) : Type 0 where
  pub more : List ℕ
  pub left : Forest ℕ
  pub selects : IsSelection d (cs ++ more) left

-- in a domain that is ready each prefix leads to a selection
abbrev pub PrefixesLeadOn : Type 0
PrefixesLeadOn = (t : TreeFacts) (r : ℕ) (cs : List ℕ) → IsSoundTree t → HasDomain t.nodes r
    → is_ready t r ≡ true → IsPrefix (forest_of by_number t.nodes r []) cs
    → LeadOn (forest_of by_number t.nodes r []) cs

-- the path of the node that an action answers: that of the child that it makes, or else its own
abbrev pub answered_path : List ℕ → NodeFacts → ActionKind → List ℕ
answered_path path n kind = if is_some (makes kind) then path ++ n.state.children ∷ [] else path

abbrev pub ActionAnswers : Type 0
ActionAnswers = (t : TreeFacts) (i : ℕ) (n : NodeFacts) (path : List ℕ) (deed : Deed)
    (after : Applied) → IsTree t.nodes → node_at t.nodes path ≡ Some i
    → slice_get t.nodes i ≡ Some n → applied t i deed ≡ Ok after
    → node_at after.tree.nodes (answered_path path n (kind_of deed)) ≡ Some after.node

-- Where a search stands, and what it keeps there.
use Rattle.std.specs.Prelude.{◌≡◌, ◌<◌, ◌≤◌, ◌+◌, ◌++◌, ℕ, List, [], Option, Some, IsSomeAnd}
use Rattle.std.specs.Prelude.{IsPermutation, length, slice_get, take}
use Rattle.conflict_finding.specs.Subject.{IsSubject}
use Rattle.verdict_claims.specs.Members.{participants}
use Rattle.negotiation_inputs.specs.Participant.{Participant}
use Rattle.search_questions.specs.declared.kept.ChoiceShare.{ChoiceShare}
use Rattle.search_questions.specs.declared.levels.Level.{Level}
use Rattle.search_questions.specs.Kept.{IsKeptFor, IsPartFor, HasPairs}
use Rattle.verdict_claims.specs.Matter.{Matter, forest}
use Rattle.verdict_claims.specs.Asked.{asked_in}
use Rattle.sysmem_tree.specs.declared.layout.Layout.{Layout}
use Rattle.sysmem_tree.specs.Forest.{Forest, settled}
use Rattle.sysmem_tree.specs.Layout.{IsLayout}
use Rattle.sysmem_tree.specs.OpenGroups.{HoldsNodes, IsFirstOpen, share_of}
use Rattle.sysmem_tree.specs.Selection.{after}
use Rattle.sysmem_tree.specs.Shape.{Member, by_number, forest_of}

-- a search of a matter that stands at a prefix of choices
pub record Standing : Type 0 where
  pub matter : Matter
  pub choices : List ℕ

-- the domain's forest by the numbers of its nodes
abbrev pub numbers : Matter → Forest ℕ
numbers m = forest_of by_number m.nodes m.domain []

-- the layout is the domain's
pub record LaysOut (m : Matter) (layout : Layout) : Type 0 where
  pub lays : IsLayout layout (numbers m)
  pub nodes : HoldsNodes layout m.nodes

-- a level is that of these choices: the first group that is open after them, and what is kept of
-- the participants that they settle
pub record IsLevel (m : Matter) (layout : Layout) (cs : List ℕ) (level : Level) : Type 0 where
  pub left : Forest Member
  pub leads : after (forest m) cs ≡ Some left
  pub kept : IsKeptFor m level.kept (participants (settled left))
  pub group : IsFirstOpen layout (numbers m) cs level.group

-- there is a level for each front of the choices
abbrev pub AreLevels : Matter → Layout → List ℕ → List Level → Type 0
AreLevels m layout cs levels = (k : ℕ) → k ≤ length cs
    → IsSomeAnd (slice_get levels k) (IsLevel m layout (take k cs))

-- each level stands for some participants
abbrev pub AreMade : Matter → List Level → Type 0
AreMade m levels = (k : ℕ) (level : Level) → slice_get levels k ≡ Some level
    → (ps : List Participant) × IsKeptFor m level.kept ps

-- what is kept of the child at a place stands in this slot: the last place has the first slot
abbrev pub IsSlot : ℕ → ℕ → Type 0
IsSlot place slot = slot + place ≡ 127

-- each pair is joined there
abbrev pub IsWholeLevel : Matter → Level → Type 0
IsWholeLevel m level = HasPairs level.kept (length m.platform.pairs)

-- what is kept in a slot is of the child whose slot it is: of the participants that the choice of
-- it settles
abbrev pub AreParts : Matter → Layout → List (Option ChoiceShare) → Type 0
AreParts m layout parts = (place slot : ℕ) (part : ChoiceShare) → IsSlot place slot
    → slice_get parts slot ≡ Some (Some part)
    → IsPartFor m part (asked_in m.nodes (share_of layout place))

-- something is kept in the slot
abbrev pub IsFilled : List (Option ChoiceShare) → ℕ → Type 0
IsFilled parts slot = (part : ChoiceShare) × (slice_get parts slot ≡ Some (Some part))

-- the slot is that of a child, of which something is kept, and whose choice leads from what is
-- settled at a level to what is settled at the next
pub record IsStep (m : Matter) (layout : Layout) (parts : List (Option ChoiceShare))
    (above next : Forest Member) (slot : ℕ) : Type 0 where
  pub place : ℕ
  pub own : IsSlot place slot
  pub filled : IsFilled parts slot
  pub adds : IsPermutation
      (participants (settled above) ++ asked_in m.nodes (share_of layout place))
      (participants (settled next))

-- each choice is such a step, in the slot of its level
abbrev pub AreSteps : Matter → Layout → List (Option ChoiceShare) → List ℕ → List Level → Type 0
AreSteps m layout parts cs levels = (k : ℕ) (above next : Forest Member) → k < length cs
    → after (forest m) (take k cs) ≡ Some above
    → after (forest m) (take (k + 1) cs) ≡ Some next
    → IsSomeAnd (slice_get levels (k + 1)) (λ level. IsStep m layout parts above next level.slot)

-- what a search keeps where it stands
pub record StandsAt (m : Matter) (layout : Layout) (parts : List (Option ChoiceShare))
    (levels : List Level) (cs : List ℕ) : Type 0 where
  pub given : IsSubject m
  pub laid : LaysOut m layout
  pub shares : AreParts m layout parts
  pub made : AreMade m levels
  pub fronts : AreLevels m layout cs levels
  pub first : IsSomeAnd (slice_get levels 0) (IsWholeLevel m)
  pub steps : AreSteps m layout parts cs levels

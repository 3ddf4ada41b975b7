-- Selections of a forest, their prefixes and their order.
use Rattle.std.specs.Prelude.{◌≡◌, ◌<◌, ◌⊎◌, ℕ, List, [], ◌∷◌, Option, Some, None, IsSome}
use Rattle.std.specs.Prelude.{option_map, option_and_then, slice_get}
use Rattle.sysmem_tree.specs.Forest.{Forest, choices, settled}

-- the forest after these choices, each for the first group that is left; none where a choice
-- is no child, or no group is left
abbrev pub after : {A : Type 0} → Forest A → List ℕ → Option (Forest A)
after d [] = Some d
after d (c ∷ cs) =
    option_and_then (λ e. after e cs) (option_and_then (λ es. slice_get es c) (choices d))

-- choices for the first groups in effect
abbrev pub IsPrefix : {A : Type 0} → Forest A → List ℕ → Type 0
IsPrefix d cs = IsSome (after d cs)

-- one child for each group in effect, with the forest that they leave
pub record IsSelection {A : Type 0} (d : Forest A) (cs : List ℕ) (e : Forest A) : Type 0 where
  pub leads : after d cs ≡ Some e
  pub whole : choices e ≡ None

-- the nodes that a prefix of choices settles; a selection's members
abbrev pub settled_by : {A : Type 0} → Forest A → List ℕ → Option (List A)
settled_by d cs = option_map settled (after d cs)

-- the smaller child has priority, at the first group at which they differ
abbrev pub IsEarlierSelection : List ℕ → List ℕ → Type 0
IsEarlierSelection [] bs = ⊥
IsEarlierSelection (a ∷ as') [] = ⊥
IsEarlierSelection (a ∷ as') (b ∷ bs) = (a < b) ⊎ ((a ≡ b) × IsEarlierSelection as' bs)

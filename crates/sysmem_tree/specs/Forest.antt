-- A forest whose nodes have labels, and what a choice for its first group makes of it.
use Rattle.std.specs.Prelude.{ℕ, ◌+◌, ◌*◌, ◌++◌, List, [], ◌∷◌, Option, Some, None, map, length}
use Rattle.std.specs.Option.{option_or}

-- a group's children are alternatives, a plain node's children are all there
pub data Forest (A : Type 0) : Type 0 where
  Empty : Forest A
  Plain : (label : A) (kids rest : Forest A) → Forest A
  Group : (label : A) (kids rest : Forest A) → Forest A

-- each tree of a forest, alone
abbrev pub each : {A : Type 0} → Forest A → List (Forest A)
each Empty = []
each (Plain n kids rest) = Plain n kids Empty ∷ each rest
each (Group n kids rest) = Group n kids Empty ∷ each rest

-- the first of two options, each put back where it was taken from
abbrev pub kids_else_rest : {A : Type 0} → (Forest A → Forest A) → (Forest A → Forest A)
    → Option (List (Forest A)) → Option (List (Forest A)) → Option (List (Forest A))
kids_else_rest here after (Some ks) rs = Some (map here ks)
kids_else_rest here after None (Some rs) = Some (map after rs)
kids_else_rest here after None None = None

-- what the forest becomes by each choice for its first group in pre-order, which keeps the chosen
-- child alone; none without a group
abbrev pub choices : {A : Type 0} → Forest A → Option (List (Forest A))
choices Empty = None
choices (Plain n kids rest) =
    kids_else_rest (λ k. Plain n k rest) (λ r. Plain n kids r) (choices kids) (choices rest)
choices (Group n kids rest) = Some (map (λ kid. Plain n kid rest) (each kids))

-- the nodes that no group has yet to choose, in pre-order
abbrev pub settled : {A : Type 0} → Forest A → List A
settled Empty = []
settled (Plain n kids rest) = n ∷ (settled kids ++ settled rest)
settled (Group n kids rest) = n ∷ settled rest

-- the same forest under other labels
abbrev pub relabel : {A B : Type 0} → (A → B) → Forest A → Forest B
relabel f Empty = Empty
relabel f (Plain n kids rest) = Plain (f n) (relabel f kids) (relabel f rest)
relabel f (Group n kids rest) = Group (f n) (relabel f kids) (relabel f rest)

-- how many selections there are: in a group one child's, of nodes that are all there each with each
abbrev mutual
  pub count : {A : Type 0} → Forest A → ℕ
  count Empty = 1
  count (Plain n kids rest) = count kids * count rest
  count (Group n kids rest) = count_each kids * count rest

  -- of alternatives
  pub count_each : {A : Type 0} → Forest A → ℕ
  count_each Empty = 0
  count_each (Plain n kids rest) = count kids + count_each rest
  count_each (Group n kids rest) = count_each kids + count_each rest

-- of forests together
abbrev pub total : {A : Type 0} → List (Forest A) → ℕ
total [] = 0
total (e ∷ es) = count e + total es

-- the first group in pre-order, and how many children it has; none without a group
abbrev pub first_group : {A : Type 0} → Forest A → Option (A × ℕ)
first_group Empty = None
first_group (Plain n kids rest) = option_or (first_group kids) (first_group rest)
first_group (Group n kids rest) = Some (n, length (each kids))

-- Lists with some elements left out.
use Rattle.std.specs.Prelude.{List, [], ◌∷◌}

-- the first list is the second with some elements left out, in the order in which they stand there
pub data IsSublist {X : Type 0} : List X → List X → Type 0 where
  ended : IsSublist [] []
  taken : (x : X) (some all : List X) → IsSublist some all → IsSublist (x ∷ some) (x ∷ all)
  left_out : (x : X) (some all : List X) → IsSublist some all → IsSublist some (x ∷ all)

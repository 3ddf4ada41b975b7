-- Lists that have all there is of a type.
use Rattle.std.specs.Prelude.{◌≡◌, ℕ, List, [], ◌∷◌, bytes_eq, filter}

-- of those in the list each thing alone has its name: so none is left out, and none is there twice
abbrev pub ListsEach : {X : Type 0} → (X → List ℕ) → List X → Type 0
ListsEach {X} name_of xs = (x : X) → filter (λ y. bytes_eq (name_of y) (name_of x)) xs ≡ x ∷ []

-- Paths in one list of numbers.
use Rattle.std.specs.Prelude.{◌≡◌, ℕ, zero, suc, ◌++◌, List, [], ◌∷◌, length}

-- of each path how many steps it has, and behind that its ordinals
abbrev pub numbers_of : List (List ℕ) → List ℕ
numbers_of [] = []
numbers_of (path ∷ paths) = length path ∷ (path ++ numbers_of paths)

-- a step before those of the first path
abbrev pub with_step : ℕ → List (List ℕ) → List (List ℕ)
with_step ordinal [] = []
with_step ordinal (path ∷ paths) = (ordinal ∷ path) ∷ paths

-- the paths of numbers, of which so many are steps of the first path
abbrev pub paths_from : ℕ → List ℕ → List (List ℕ)
paths_from zero [] = [] ∷ []
paths_from zero (many ∷ numbers) = [] ∷ paths_from many numbers
paths_from (suc left) [] = []
paths_from (suc left) (ordinal ∷ numbers) = with_step ordinal (paths_from left numbers)

-- the paths of a list of numbers
abbrev pub paths_in : List ℕ → List (List ℕ)
paths_in [] = []
paths_in (many ∷ numbers) = paths_from many numbers

-- the numbers say nothing but their paths
abbrev pub AreOfPaths : List ℕ → Type 0
AreOfPaths numbers = numbers ≡ numbers_of (paths_in numbers)

-- Some of a list.
use Rattle.std.specs.Prelude.{List, ◌++◌}
use Rattle.std.specs.List.Sorted.{IsPermutation}

-- some of a list's elements, in any order: together with others they are all of them
pub record AreSomeOf {X : Type 0} (some all : List X) : Type 0 where
  pub others : List X
  pub order : IsPermutation (some ++ others) all

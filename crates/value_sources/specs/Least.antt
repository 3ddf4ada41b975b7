-- Which number is the least count of participants.
use Rattle.std.specs.Prelude.{ℕ, ◌≡◌, List}
use Rattle.sysmem_counts.specs.Counts.{needed}
use Rattle.sysmem_counts.specs.declared.constraints.CountConstraints.{CountConstraints}

-- a number, with what participants ask of the count
pub record CountOf : Type 0 where
  pub number : ℕ
  pub counts : List CountConstraints

-- it is the least that they need
abbrev pub IsNeeded : CountOf → Type 0
IsNeeded c = c.number ≡ needed c.counts

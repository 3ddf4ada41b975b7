-- What is true of counts, whoever works them out.
use Rattle.std.specs.Prelude.{ℕ, ◌≡◌, ◌≤◌, List}
use Rattle.list_lemmas.specs.Some.{AreSomeOf}
use Rattle.sysmem_counts.specs.Counts.{IsCounted, IsLeastCount, IsCountLine}
use Rattle.sysmem_counts.specs.Counts.{IsFixedCountLine, HasNoCount}
use Rattle.sysmem_counts.specs.declared.bounds.TheConstants.{BUFFER_COUNT_LIMIT}
use Rattle.sysmem_counts.specs.declared.constraints.CountConstraints.{CountConstraints}
use Rattle.sysmem_counts.specs.declared.field.Field.{Field}

-- what suits participants suits some of them, whatever their order
abbrev pub CountSuitsSome : Type 0
CountSuitsSome = (some all : List CountConstraints) (count : ℕ) → AreSomeOf some all
    → IsCounted all count → IsCounted some count

-- a count line that is true of some of the participants leaves no count for
-- all of them, whatever their order
abbrev pub CountLineLeavesNoCount : Type 0
CountLineLeavesNoCount = (field : Field) (some all : List CountConstraints) → AreSomeOf some all
    → IsCountLine field some → HasNoCount all

-- participants have at most one least count
abbrev pub OneLeastCount : Type 0
OneLeastCount = (ps : List CountConstraints) (a b : ℕ) → IsLeastCount ps a → IsLeastCount ps b
    → a ≡ b

-- where the count is fixed, a line that is true of some of the participants means
-- that it doesn't suit all of them
abbrev pub FixedCountLineHolds : Type 0
FixedCountLineHolds = (count : ℕ) (field : Field) (some all : List CountConstraints)
    → AreSomeOf some all → IsFixedCountLine count field some → ¬ IsCounted all count

-- one of its two lines is true of participants whom a count up to the limit doesn't suit
abbrev pub UnsuitedCountHasLine : Type 0
UnsuitedCountHasLine = (count : ℕ) (ps : List CountConstraints)
    → count ≤ BUFFER_COUNT_LIMIT → ¬ IsCounted ps count
    → (field : Field) × IsFixedCountLine count field ps

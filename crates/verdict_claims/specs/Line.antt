-- A line of the conflict table.
use Rattle.std.specs.Prelude.{◌≡◌, ℕ, suc, List, Some, slice_get}
use Rattle.sysmem_counts.specs.declared.field.Field.{Field}
use Rattle.verdict_claims.specs.declared.line.SharedPaths.{SharedPaths}

-- a field that fails for the participants at some paths
pub record LineFacts : Type 0 where
  pub field : Field
  pub nodes : List (List ℕ)

-- the line at a place is the one before it once more
pub record IsAgain (lines : List LineFacts) (at : ℕ) : Type 0 where
  pub before : ℕ
  pub next : at ≡ suc before
  pub line : LineFacts
  pub first : slice_get lines before ≡ Some line
  pub same : slice_get lines at ≡ Some line

-- the lines at two places have the same paths
pub record SharePaths (lines : List LineFacts) (places : SharedPaths) : Type 0 where
  pub earlier : LineFacts
  pub later : LineFacts
  pub first : slice_get lines places.earlier ≡ Some earlier
  pub second : slice_get lines places.later ≡ Some later
  pub same : later.nodes ≡ earlier.nodes

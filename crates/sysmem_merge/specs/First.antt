-- The first of a list.
use Rattle.std.specs.Prelude.{◌≡◌, List, ◌∷◌, ◌++◌, All}
use Rattle.sysmem_counts.specs.declared.field.Field.{Field}

-- the field is of a list, has the property, and those before it have not
pub record IsFirstOf (P : Field → Type 0) (fields : List Field) (field : Field) : Type 0 where
  pub earlier : List Field
  pub later : List Field
  pub listed : fields ≡ earlier ++ field ∷ later
  pub holds : P field
  pub before : All (λ f. ¬ P f) earlier

-- What is told of what is wanted.
use Rattle.std.specs.Prelude.{IsSome, IsTrue}
use Rattle.explain.specs.declared.explaining.Explanation.{Explanation}
use Rattle.explain.specs.declared.explaining.Outputs.{Outputs}

-- each form that is wanted is there
pub record AreThere (wanted : Outputs) (told : Explanation) : Type 0 where
  pub text : IsTrue wanted.text → IsSome told.text
  pub objects : IsTrue wanted.objects → IsSome told.objects
  pub page : IsTrue wanted.page → IsSome told.page

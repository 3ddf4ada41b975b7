-- What a verdict that chose gives.
use Rattle.std.specs.Prelude.{ℕ, List}
use Rattle.sysmem_merge.specs.declared.settings.Settings.{Settings}

-- the choices, one for each group in effect, and the settings
pub record ChosenFacts : Type 0 where
  pub selection : List ℕ
  pub settings : Settings

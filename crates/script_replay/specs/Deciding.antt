-- What a decision can be.
use Rattle.sysmem_counts.specs.declared.field.Field.{Field}
use Rattle.sysmem_image.specs.Corners.{RefusesCorner}
use Rattle.sysmem_merge.specs.declared.settings.Settings.{Settings}
use Rattle.verdict_claims.specs.declared.verdict.Verdict.{Verdict}
use Rattle.verdict_claims.specs.declared.verdict.Verdict.TheVariants.{Chosen, IntersectionEmpty}
use Rattle.verdict_claims.specs.declared.verdict.Verdict.TheVariants.{TooMany, Failed, NoMemory}

-- for no field the bounds of the settings are refused a corner
abbrev pub HasCorner : Settings → Type 0
HasCorner s = (field : Field) → RefusesCorner field s.offer s.bounds → ⊥

-- a verdict that a decision can have: where it chose settings, these have a corner
abbrev pub CanBeTold : Verdict → Type 0
CanBeTold (Chosen chosen) = HasCorner chosen.settings
CanBeTold IntersectionEmpty = Unit {0}
CanBeTold TooMany = Unit {0}
CanBeTold Failed = ⊥
CanBeTold NoMemory = ⊥

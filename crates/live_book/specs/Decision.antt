-- A decision that is being made.
use Rattle.std.specs.Prelude.{Option}
use Rattle.sysmem_alloc.specs.Frozen.{FrozenFacts}
use Rattle.verdict_claims.specs.declared.certificate.Claim.{Claim}

-- what it is made from, and the claim, once there is one
pub record DecisionFacts : Type 0 where
  pub frozen : FrozenFacts
  pub claim : Option Claim

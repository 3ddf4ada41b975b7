-- Which claims a book takes: those whose verdict is optimal, with what proves it or bare.
use Rattle.std.specs.Prelude.{◌≡◌, ◌⊎◌, ℕ, List, Option}
use Rattle.verdict_claims.specs.declared.certificate.Claim.{Claim}
use Rattle.verdict_claims.specs.declared.certificate.Proof.TheVariants.{Nothing}
use Rattle.verdict_claims.specs.declared.verdict.Verdict.TheVariants.{TooMany}
use Rattle.verdict_claims.specs.Base.{BaseFacts}
use Rattle.verdict_claims.specs.Claim.{IsProofIn}
use Rattle.verdict_claims.specs.Verdict.{IsOptimalIn}
use Rattle.negotiation_inputs.specs.Platform.{PlatformFacts}
use Rattle.sysmem_tree.specs.Node.{NodeFacts}

-- a claim comes without a proof
abbrev pub IsBare : Claim → Type 0
IsBare claim = claim.proof ≡ Nothing

-- a claim comes with some proof, unless its verdict is too many selections, which needs none
abbrev pub HasProof : Claim → Type 0
HasProof claim = IsBare claim → claim.verdict ≡ TooMany

-- a claim is right for a domain of a tree: its verdict is optimal, and it is
-- bare or its proof proves the verdict
pub record IsRightClaim (platform : PlatformFacts) (nodes : List NodeFacts) (domain : ℕ)
    (base : Option BaseFacts) (claim : Claim) : Type 0 where
  pub optimal : IsOptimalIn platform nodes domain base claim.verdict
  pub proved : IsBare claim ⊎ IsProofIn platform nodes domain base claim.verdict claim.proof

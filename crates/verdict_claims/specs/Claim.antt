-- Verdicts with what is to prove them.
use Rattle.std.specs.Prelude.{ℕ, List, Option, option_map}
use Rattle.negotiation_inputs.specs.Platform.{PlatformFacts}
use Rattle.sysmem_tree.specs.Node.{NodeFacts}
use Rattle.sysmem_tree.specs.Shape.{shape_of}
use Rattle.verdict_claims.specs.declared.certificate.Claim.{Claim as AClaim}
use Rattle.verdict_claims.specs.declared.certificate.Proof.{Proof}
use Rattle.verdict_claims.specs.declared.verdict.Verdict.{Verdict}
use Rattle.verdict_claims.specs.Base.{BaseFacts, terms_of}
use Rattle.verdict_claims.specs.Check.{IsProof}
use Rattle.verdict_claims.specs.Verdict.{IsOptimalIn}

-- what proves a verdict of its kind, of a domain of a tree
abbrev pub IsProofIn : PlatformFacts → List NodeFacts → ℕ → Option BaseFacts → Verdict → Proof
    → Type 0
IsProofIn platform nodes domain base =
    IsProof platform (option_map (terms_of nodes) base) (shape_of nodes domain)

-- a claim is true of a domain of a tree: its verdict is optimal, and its proof proves it
pub record IsTrueClaim (platform : PlatformFacts) (nodes : List NodeFacts) (domain : ℕ)
    (base : Option BaseFacts) (claim : AClaim) : Type 0 where
  pub optimal : IsOptimalIn platform nodes domain base claim.verdict
  pub proved : IsProofIn platform nodes domain base claim.verdict claim.proof

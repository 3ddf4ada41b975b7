-- What was lent stands for what it was lent from.
use Rattle.std.proofs.Common.{◌≡◌, ℕ, Option, subst}
use Rattle.sysmem_alloc.specs.Claims.{IsRightClaim}
use Rattle.verdict_claims.specs.Base.{BaseFacts}
use Rattle.verdict_claims.specs.declared.certificate.Claim.{Claim}
use Rattle.negotiation_inputs.specs.Platform.{PlatformFacts}
use Rattle.sysmem_tree.specs.Domain.{TreeFacts}

-- what is right on what was lent is right
pub right_as : (p q : PlatformFacts) (t u : TreeFacts) (r : ℕ) (a b : Option BaseFacts) (c d : Claim) → p ≡ q → t ≡ u → a ≡ b → c ≡ d → IsRightClaim p t.nodes r a c → IsRightClaim q u.nodes r b d
right_as p q t u r a b c d platform tree base same claim =
    let first = subst (λ (x : PlatformFacts). IsRightClaim x t.nodes r a c) platform claim in
    let second = subst (λ (x : TreeFacts). IsRightClaim q x.nodes r a c) tree first in
    let third = subst (λ (x : Option BaseFacts). IsRightClaim q u.nodes r x c) base second in
    subst (λ (x : Claim). IsRightClaim q u.nodes r b x) same third

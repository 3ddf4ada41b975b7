-- A claim that is true is one to which the checker says yes.
use Rattle.std.proofs.Common.{◌≡◌, ℕ, Option, subst, sym, ◌∙◌}
use Rattle.sysmem_alloc.specs.Frozen.{FrozenFacts}
use Rattle.verdict_claims.specs.declared.certificate.Claim.{Claim as AClaim}
use Rattle.verdict_claims.specs.Base.{BaseFacts}
use Rattle.verdict_claims.specs.Claim.{IsTrueClaim}
use Rattle.negotiation_inputs.specs.Platform.{PlatformFacts}
use Rattle.sysmem_tree.specs.Domain.{TreeFacts}
use Rattle.sysmem_room.proofs.outcome.Ruling.is_checked.Goals as goal

-- true of what was frozen, as its readers lend it
lent_true : (f g : FrozenFacts) (p : PlatformFacts) (t : TreeFacts) (r : ℕ) (b : Option BaseFacts) (c : AClaim) → g ≡ f → p ≡ g.platform → t ≡ g.tree → r ≡ g.domain → b ≡ g.base
    → IsTrueClaim f.platform f.tree.nodes f.domain f.base c → IsTrueClaim p t.nodes r b c
lent_true f g p t r b c frozen platform tree domain base is =
    let one = subst (λ (x : FrozenFacts). IsTrueClaim x.platform x.tree.nodes x.domain x.base c) (sym frozen) is in
    let two = subst (λ x. IsTrueClaim x g.tree.nodes g.domain g.base c) (sym platform) one in
    let three = subst (λ (x : TreeFacts). IsTrueClaim p x.nodes g.domain g.base c) (sym tree) two in
    subst (λ x. IsTrueClaim p t.nodes r x c) (sym base) (subst (λ x. IsTrueClaim p t.nodes x g.base c) (sym domain) three)

pub returns : goal.returns
returns c =
    c.is_ok.ensures.value ∙ c.check.ensures.accepted (lent_true _ _ _ _ _ _ _ c.frozen-frozen.ensures c.platform.ensures c.tree.ensures c.domain.ensures.domain c.base.ensures.base c.claim.ensures.right)

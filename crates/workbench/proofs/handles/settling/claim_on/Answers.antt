-- What is found and proved on a book is right for it.
use Rattle.std.proofs.Common.{◌≡◌, ◌∙◌, ℕ, Option, ap, inr, subst, sym}
use Rattle.sysmem_alloc.specs.Claims.{IsRightClaim}
use Rattle.negotiation_inputs.specs.Platform.{PlatformFacts}
use Rattle.sysmem_tree.specs.Domain.{HasDomain, TreeFacts, is_ready}
use Rattle.verdict_claims.specs.Base.{BaseFacts}
use Rattle.verdict_claims.specs.Claim.{IsProofIn}
use Rattle.verdict_claims.specs.Verdict.{IsOptimalIn}
use Rattle.verdict_claims.specs.declared.certificate.Claim.{Claim as AClaim}
use Rattle.verdict_claims.specs.declared.certificate.Proof.{Proof}
use Rattle.verdict_claims.specs.declared.verdict.Verdict.{Verdict}
use Rattle.workbench.proofs.handles.settling.claim_on.Goals as goal

right_for : (p q : PlatformFacts) (t u : TreeFacts) (d : ℕ) (a b : Option BaseFacts) (v : Verdict) (by : Proof) → p ≡ q → t ≡ u → a ≡ b
    → IsOptimalIn p t.nodes d a v → IsProofIn p t.nodes d a v by → IsRightClaim q u.nodes d b (record { verdict = v; proof = by })
right_for p q t u d a b v by pq tu ab optimal proved =
    let claim : AClaim = record { verdict = v; proof = by } in
    let one : IsRightClaim p t.nodes d a claim = record { optimal = optimal; proved = inr proved } in
    let two : IsRightClaim p t.nodes d b claim = subst (λ x. IsRightClaim p t.nodes d x claim) ab one in
    let three : IsRightClaim p u.nodes d b claim = subst (λ (x : TreeFacts). IsRightClaim p x.nodes d b claim) tu two in
    subst (λ x. IsRightClaim x u.nodes d b claim) pq three

pub search-requires-clause-domain : goal.search-requires-clause-domain
search-requires-clause-domain c = subst (λ (t : TreeFacts). HasDomain t.nodes c.args.domain) (sym c.tree-tree.ensures) c.requires.waits.there

pub search-requires-clause-ready : goal.search-requires-clause-ready
search-requires-clause-ready c = ap (λ t. is_ready t c.args.domain) c.tree-tree.ensures ∙ c.requires.waits.ready

pub prove-requires-clause-domain : goal.prove-requires-clause-domain
prove-requires-clause-domain c = subst (λ (t : TreeFacts). HasDomain t.nodes c.args.domain) (sym c.tree-tree.ensures) c.requires.waits.there

pub returns : goal.returns
returns c =
    right_for c.platform-platform.result.now _ c.tree-tree.result.now _ c.args.domain _ _ c.in_ok-found.found.verdict c.in_ok-proof.proof
    c.platform-platform.ensures.platform c.tree-tree.ensures (c.as_ref-given.ensures.value ∙ c.in_ok-base.ensures.base) c.in_ok-found.ensures.optimal c.in_ok-proof.ensures.proved

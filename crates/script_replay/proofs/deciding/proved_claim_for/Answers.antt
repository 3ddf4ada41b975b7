use Rattle.std.proofs.Common.{sym, ◌∙◌, subst}
use Rattle.sysmem_alloc.specs.Claims.{HasProof}
use Rattle.sysmem_alloc.specs.Sound.{MayWait}
use Rattle.sysmem_alloc.specs.State.{base_of}
use Rattle.sysmem_alloc.proofs.CallerLemmas.{true_has_proof, true_is_right}
use Rattle.verdict_claims.specs.Claim.{IsTrueClaim}
use Rattle.sysmem_tree.specs.Domain.{TreeFacts}
use Rattle.script_replay.proofs.CallerLemmas.{claim_as}
use Rattle.script_replay.proofs.deciding.proved_claim_for.Goals as goal

pub proved_claim-requires-clause-waits : goal.proved_claim-requires-clause-waits
proved_claim-requires-clause-waits c = subst (λ (t : TreeFacts). MayWait t c.args.domain) (sym c.tree-tree.ensures) c.requires.waits

pub returns-clause-allowed : goal.returns-clause-allowed
returns-clause-allowed c = (
  c.requires.next,
  true_is_right c.args.book.now.platform c.args.book.now.state.tree.nodes c.args.domain (base_of c.args.book.now.state c.args.domain) _
      (claim_as IsTrueClaim c.platform-platform.result.now c.args.book.now.platform c.tree-tree.result.now c.args.book.now.state.tree c.args.domain _ (base_of c.args.book.now.state c.args.domain)
      c.in-Ok-proved_claim.claim _ c.platform-platform.ensures.platform c.tree-tree.ensures (c.as_ref.ensures.value ∙ c.in-Ok.ensures.base) (sym c.in-Ok-new.ensures.ok)
      c.in-Ok-proved_claim.ensures),
)

pub returns-clause-proved : goal.returns-clause-proved
returns-clause-proved c =
    subst HasProof (sym c.in-Ok-new.ensures.ok) (true_has_proof c.platform-platform.result.now c.tree-tree.result.now.nodes c.args.domain _ _ c.in-Ok-proved_claim.ensures)

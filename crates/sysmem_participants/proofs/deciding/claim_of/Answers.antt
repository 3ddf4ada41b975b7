use Rattle.std.proofs.Common.{◌∙◌, ap}
use Rattle.sysmem_tree.specs.Domain.{is_ready}
use Rattle.sysmem_participants.proofs.Ruled.{put_together}
use Rattle.sysmem_participants.proofs.deciding.claim_of.Goals as goal

pub search_wide-requires-clause-ready : goal.search_wide-requires-clause-ready
search_wide-requires-clause-ready g c κs within = ap (λ t. is_ready t c.domain-domain.result) c.tree-tree.ensures ∙ c.domain-domain.ensures.waits.ready

pub returns : goal.returns
returns g c =
    put_together c.platform-platform.result.now _ c.tree-tree.result.now _ c.domain-domain.result _ _ _ c.in_ok-verdict.field-0.verdict c.in_ok-proof.proof
    c.platform-platform.ensures c.tree-tree.ensures c.domain-domain.ensures.domain c.base-base.ensures.base c.in_ok-verdict.ensures.optimal c.in_ok-proof.ensures.proved

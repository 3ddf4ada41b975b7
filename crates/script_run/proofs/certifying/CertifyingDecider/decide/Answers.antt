use Rattle.std.specs.Arc.{arc_value}
use Rattle.sysmem_alloc.specs.Claims.{HasProof}
use Rattle.script_replay.proofs.CallerLemmas.{if_mapped, proved_push}
use Rattle.script_run.proofs.certifying.CertifyingDecider.decide.Goals as goal

pub returns-clause-gave : goal.returns-clause-gave
returns-clause-gave c = λ cs held. (
  c.in_ok-put.ensures cs held.0,
  proved_push cs _ _ held.1 (if_mapped (λ shared. arc_value shared) HasProof c.proved_claim_for-claim.result c.proved_claim_for-claim.ensures.proved),
)

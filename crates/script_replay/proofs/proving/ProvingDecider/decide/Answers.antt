use Rattle.std.specs.Arc.{arc_value}
use Rattle.sysmem_alloc.specs.Claims.{HasProof}
use Rattle.script_replay.proofs.Proved.{if_mapped, proved_push}
use Rattle.script_replay.proofs.proving.ProvingDecider.decide.Goals as goal

pub returns-clause-gave : goal.returns-clause-gave
returns-clause-gave c = λ cs held. proved_push cs _ _ held (if_mapped (λ shared. arc_value shared) HasProof c.proved_claim_for.result c.proved_claim_for.ensures.proved)

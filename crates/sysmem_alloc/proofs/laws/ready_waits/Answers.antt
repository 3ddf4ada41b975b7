-- See Awaiting.antt.
use Rattle.sysmem_alloc.proofs.Awaiting.{ready_waits as lemma}
use Rattle.sysmem_alloc.proofs.laws.ready_waits.Goals as goal

pub returns : goal.returns
returns c = lemma c.legal_is_sound.ensures c.legal_agrees.ensures

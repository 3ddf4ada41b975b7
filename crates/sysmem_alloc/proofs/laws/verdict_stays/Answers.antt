-- See Lasting.antt.
use Rattle.sysmem_alloc.proofs.Lasting.{verdict_stays as lemma}
use Rattle.sysmem_alloc.proofs.laws.verdict_stays.Goals as goal

pub returns : goal.returns
returns c = lemma c.legal_is_sound.ensures c.ready_stays.ensures c.failed_stays.ensures c.one_forest.ensures

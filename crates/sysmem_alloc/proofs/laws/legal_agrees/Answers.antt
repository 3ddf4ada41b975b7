-- See Agreeing.antt.
use Rattle.sysmem_alloc.proofs.Agreeing.{legal_agrees as lemma}
use Rattle.sysmem_alloc.proofs.laws.legal_agrees.Goals as goal

pub returns : goal.returns
returns c = lemma c.legal_is_sound.ensures c.forest_stays.ensures c.one_forest.ensures

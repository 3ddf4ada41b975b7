-- See StillThere.antt.
use Rattle.sysmem_alloc.proofs.StillThere.{numbers_stay as lemma}
use Rattle.sysmem_alloc.proofs.laws.numbers_stay.Goals as goal

pub returns : goal.returns
returns c = lemma c.legal_is_sound.ensures c.one_forest.ensures c.numbers_stay.ensures

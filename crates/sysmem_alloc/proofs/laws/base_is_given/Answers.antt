-- See GivenBases.antt.
use Rattle.sysmem_alloc.proofs.GivenBases.{base_is_given as lemma}
use Rattle.sysmem_alloc.proofs.laws.base_is_given.Goals as goal

pub returns : goal.returns
returns c = lemma c.legal_is_sound.ensures c.legal_agrees.ensures c.members_stand_once.ensures

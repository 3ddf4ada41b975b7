-- See Bounding.antt.
use Rattle.sysmem_room.proofs.Bounding.{limit_goes_on as lemma}
use Rattle.sysmem_room.proofs.laws.limit_goes_on.Goals as goal

pub returns : goal.returns
returns c = lemma c.one_path.ensures c.legal_is_sound.ensures

-- See Next.antt.
use Rattle.sysmem_alloc.proofs.Next.{next_stays as lemma}
use Rattle.sysmem_alloc.proofs.laws.next_stays.Goals as goal

pub returns : goal.returns
returns c = lemma c.legal_is_sound.ensures c.legal_agrees.ensures c.forest_stays.ensures c.members_stay.ensures

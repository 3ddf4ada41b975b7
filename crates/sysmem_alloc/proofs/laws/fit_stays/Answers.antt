-- See Still.antt.
use Rattle.sysmem_alloc.proofs.Still.{fit_stays as lemma}
use Rattle.sysmem_alloc.proofs.laws.fit_stays.Goals as goal

pub returns : goal.returns
returns c = lemma c.next_stays.ensures

-- See Still.antt.
use Rattle.sysmem_alloc.proofs.Still.{fit_is_right as lemma}
use Rattle.sysmem_alloc.proofs.laws.fit_is_right.Goals as goal

pub returns : goal.returns
returns c = lemma

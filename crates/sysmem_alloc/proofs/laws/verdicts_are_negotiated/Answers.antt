-- See Split.antt.
use Rattle.sysmem_alloc.proofs.Split.{verdicts_are_negotiated as lemma}
use Rattle.sysmem_alloc.proofs.laws.verdicts_are_negotiated.Goals as goal

pub returns : goal.returns
returns c = lemma c.headline.ensures

-- See Counting.antt.
use Rattle.sysmem_alloc.proofs.Counting.{few_in}
use Rattle.sysmem_alloc.proofs.laws.few_entries.Goals as goal

pub returns : goal.returns
returns c = λ platform es legal. few_in platform es legal (c.legal_is_sound.ensures platform es legal)

-- See histories/Agreeing.antt.
use Rattle.sysmem_tree.proofs.histories.Agreeing.{initial_shape as lemma}
use Rattle.sysmem_tree.proofs.laws.initial_shape.Goals as goal

pub returns : goal.returns
returns c = lemma

-- See forests/SameForest.antt.
use Rattle.sysmem_tree.proofs.forests.SameForest.{same_shape as lemma}
use Rattle.sysmem_tree.proofs.laws.same_shape.Goals as goal

pub returns : goal.returns
returns c = lemma

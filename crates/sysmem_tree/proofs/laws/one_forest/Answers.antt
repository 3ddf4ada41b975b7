-- See forests/Labelled.antt.
use Rattle.sysmem_tree.proofs.forests.Labelled.{one_forest as lemma}
use Rattle.sysmem_tree.proofs.laws.one_forest.Goals as goal

pub returns : goal.returns
returns c = lemma

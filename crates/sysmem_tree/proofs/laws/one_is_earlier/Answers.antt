-- See selections/Selections.antt.
use Rattle.sysmem_tree.proofs.selections.Selections.{one_is_earlier as lemma}
use Rattle.sysmem_tree.proofs.laws.one_is_earlier.Goals as goal

pub returns : goal.returns
returns c = lemma

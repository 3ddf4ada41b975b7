-- See selections/Selections.antt.
use Rattle.sysmem_tree.proofs.selections.Selections.{prefix_of_prefix as lemma}
use Rattle.sysmem_tree.proofs.laws.prefix_of_prefix.Goals as goal

pub returns : goal.returns
returns c = lemma

-- See selections/Selections.antt.
use Rattle.sysmem_tree.proofs.selections.Selections.{relabels as lemma}
use Rattle.sysmem_tree.proofs.laws.relabels.Goals as goal

pub returns : goal.returns
returns c = lemma

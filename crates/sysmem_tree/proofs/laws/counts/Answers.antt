-- See selections/Selections.antt.
use Rattle.sysmem_tree.proofs.selections.Selections.{counted as lemma}
use Rattle.sysmem_tree.proofs.laws.counts.Goals as goal

pub returns : goal.returns
returns c = lemma

-- See selections/Selections.antt.
use Rattle.sysmem_tree.proofs.selections.Selections.{first_many as lemma}
use Rattle.sysmem_tree.proofs.laws.first_group.Goals as goal

pub returns : goal.returns
returns c = lemma

-- See selections/Shrinking.antt.
use Rattle.sysmem_tree.proofs.selections.Shrinking.{few_children as lemma}
use Rattle.sysmem_tree.proofs.layout_laws.few_children.Goals as goal

pub returns : goal.returns
returns c = lemma

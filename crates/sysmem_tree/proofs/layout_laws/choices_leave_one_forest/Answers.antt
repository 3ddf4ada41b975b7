-- See selections/ChoiceLaws.antt.
use Rattle.sysmem_tree.proofs.selections.ChoiceLaws.{choices_leave_one_forest as lemma}
use Rattle.sysmem_tree.proofs.layout_laws.choices_leave_one_forest.Goals as goal

pub returns : goal.returns
returns c = lemma

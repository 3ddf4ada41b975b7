-- See selections/ChoiceLaws.antt.
use Rattle.sysmem_tree.proofs.selections.ChoiceLaws.{first_group_is_settled as lemma}
use Rattle.sysmem_tree.proofs.layout_laws.first_group_is_settled.Goals as goal

pub returns : goal.returns
returns c = lemma

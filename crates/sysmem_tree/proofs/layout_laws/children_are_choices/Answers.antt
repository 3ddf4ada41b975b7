-- See selections/ChoiceLaws.antt.
use Rattle.sysmem_tree.proofs.selections.ChoiceLaws.{children_are_choices as lemma}
use Rattle.sysmem_tree.proofs.layout_laws.children_are_choices.Goals as goal

pub returns : goal.returns
returns c = lemma

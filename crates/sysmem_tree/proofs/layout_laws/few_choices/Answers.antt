-- See selections/ChoiceLaws.antt.
use Rattle.sysmem_tree.proofs.selections.ChoiceLaws.{few_choices as lemma}
use Rattle.sysmem_tree.proofs.layout_laws.few_choices.Goals as goal

pub returns : goal.returns
returns c = lemma

-- See selections/ChoiceLaws.antt.
use Rattle.sysmem_tree.proofs.selections.ChoiceLaws.{none_open_is_selection as lemma}
use Rattle.sysmem_tree.proofs.layout_laws.none_open_is_selection.Goals as goal

pub returns : goal.returns
returns c = lemma

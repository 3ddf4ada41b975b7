-- See selections/Selections.antt.
use Rattle.sysmem_tree.proofs.selections.Selections.{an_order as lemma}
use Rattle.sysmem_tree.proofs.laws.earlier_is_an_order.Goals as goal

pub returns : goal.returns
returns c = lemma

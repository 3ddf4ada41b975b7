-- See selections/Selections.antt.
use Rattle.sysmem_tree.proofs.selections.Selections.{settled_grows as lemma}
use Rattle.sysmem_tree.proofs.laws.settled_grows.Goals as goal

pub returns : goal.returns
returns c = lemma

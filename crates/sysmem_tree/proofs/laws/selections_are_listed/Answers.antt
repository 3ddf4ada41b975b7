-- See selections/Listed.antt.
use Rattle.sysmem_tree.proofs.selections.Listed.{listed as lemma}
use Rattle.sysmem_tree.proofs.laws.selections_are_listed.Goals as goal

pub returns : goal.returns
returns c = lemma

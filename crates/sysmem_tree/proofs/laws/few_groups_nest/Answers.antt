-- See forests/Apart.antt.
use Rattle.sysmem_tree.proofs.forests.Apart.{shape_shallow as lemma}
use Rattle.sysmem_tree.proofs.laws.few_groups_nest.Goals as goal

pub returns : goal.returns
returns c = lemma

-- See forests/Once.antt.
use Rattle.sysmem_tree.proofs.forests.Once.{members_stand_once as lemma}
use Rattle.sysmem_tree.proofs.laws.members_stand_once.Goals as goal

pub returns : goal.returns
returns c = lemma

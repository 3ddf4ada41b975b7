-- See forests/Once.antt.
use Rattle.sysmem_tree.proofs.forests.Once.{members_stay as lemma}
use Rattle.sysmem_tree.proofs.laws.members_stay.Goals as goal

pub returns : goal.returns
returns c = lemma

-- See histories/Entries.antt.
use Rattle.sysmem_tree.proofs.histories.Entries.{ready_stays as lemma}
use Rattle.sysmem_tree.proofs.laws.ready_stays.Goals as goal

pub returns : goal.returns
returns c = lemma

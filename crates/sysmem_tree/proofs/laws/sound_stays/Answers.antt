-- See histories/Entries.antt.
use Rattle.sysmem_tree.proofs.histories.Entries.{sound_stays as lemma}
use Rattle.sysmem_tree.proofs.laws.sound_stays.Goals as goal

pub returns : goal.returns
returns c = lemma

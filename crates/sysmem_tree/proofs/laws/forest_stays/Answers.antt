-- See histories/Entries.antt.
use Rattle.sysmem_tree.proofs.histories.Entries.{forest_stays as lemma}
use Rattle.sysmem_tree.proofs.laws.forest_stays.Goals as goal

pub returns : goal.returns
returns c = lemma

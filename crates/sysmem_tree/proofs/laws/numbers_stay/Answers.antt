-- See histories/Staying.antt.
use Rattle.sysmem_tree.proofs.histories.Staying.{numbers_stay as lemma}
use Rattle.sysmem_tree.proofs.laws.numbers_stay.Goals as goal

pub returns : goal.returns
returns c = lemma

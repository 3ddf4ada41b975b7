-- See histories/Agreeing.antt.
use Rattle.sysmem_tree.proofs.histories.Agreeing.{confluence as lemma}
use Rattle.sysmem_tree.proofs.laws.confluence.Goals as goal

pub returns : goal.returns
returns c = lemma

-- See layouts/Shares.antt.
use Rattle.sysmem_tree.proofs.layouts.Shares.{choice_settles_share as lemma}
use Rattle.sysmem_tree.proofs.layout_laws.choice_settles_share.Goals as goal

pub returns : goal.returns
returns c = lemma

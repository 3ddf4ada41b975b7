-- See steps/Steps.antt.
use Rattle.sysmem_tree.proofs.steps.Steps.{only_path as lemma}
use Rattle.sysmem_tree.proofs.laws.one_path.Goals as goal

pub returns : goal.returns
returns c = lemma

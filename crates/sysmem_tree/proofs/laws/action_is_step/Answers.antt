-- See steps/Steps.antt.
use Rattle.sysmem_tree.proofs.steps.Steps.{call_is_step as lemma}
use Rattle.sysmem_tree.proofs.laws.action_is_step.Goals as goal

pub returns : goal.returns
returns c = lemma

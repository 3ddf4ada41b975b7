-- See steps/Answering.antt.
use Rattle.sysmem_tree.proofs.steps.Answering.{action_answers as lemma}
use Rattle.sysmem_tree.proofs.layout_laws.action_answers.Goals as goal

pub returns : goal.returns
returns c = lemma

use Rattle.script_check.proofs.AnswerLemmas.{fault_is_alone}
use Rattle.script_check.proofs.laws.fault_is_alone.Goals as goal

pub returns : goal.returns
returns c = fault_is_alone

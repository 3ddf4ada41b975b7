use Rattle.script_check.proofs.AnswerLemmas.{one_answer}
use Rattle.script_check.proofs.laws.one_answer.Goals as goal

pub returns : goal.returns
returns c = one_answer c.one_report.ensures

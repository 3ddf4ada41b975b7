use Rattle.script_check.proofs.Unique.{one_report}
use Rattle.script_check.proofs.laws.one_report.Goals as goal

pub returns : goal.returns
returns c = one_report c.one_answer.ensures c.corner_is_least.ensures

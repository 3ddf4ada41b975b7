use Rattle.script_check.proofs.OneCheck.{one_check}
use Rattle.script_check.proofs.laws.one_check.Goals as goal

pub returns : goal.returns
returns c = one_check c.tests_are_exact.ensures c.faults_are_first.ensures

use Rattle.script_check.proofs.Uncertified.{certified_is_report}
use Rattle.script_check.proofs.laws.certified_is_report.Goals as goal

pub returns : goal.returns
returns c = certified_is_report

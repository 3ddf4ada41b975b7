use Rattle.script_check.proofs.Accepting.{certificates_are_accepted}
use Rattle.script_check.proofs.laws.certificates_are_accepted.Goals as goal

pub returns : goal.returns
returns c = certificates_are_accepted c.certificates_read_back.ensures c.one_check.ensures c.certified_is_report.ensures c.fault_is_alone.ensures

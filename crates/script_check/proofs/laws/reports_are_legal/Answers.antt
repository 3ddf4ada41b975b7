use Rattle.script_check.proofs.Histories.{reports_are_legal as lemma}
use Rattle.script_check.proofs.laws.reports_are_legal.Goals as goal

pub returns : goal.returns
returns c = lemma

use Rattle.script_check.proofs.Histories.{headline_of_bytes as lemma}
use Rattle.script_check.proofs.laws.headline_of_bytes.Goals as goal

pub returns : goal.returns
returns c = lemma c.reports_are_legal.ensures c.headline.ensures

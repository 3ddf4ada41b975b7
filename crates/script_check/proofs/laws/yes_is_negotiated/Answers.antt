use Rattle.script_check.proofs.Histories.{yes_is_negotiated as lemma}
use Rattle.script_check.proofs.laws.yes_is_negotiated.Goals as goal

pub returns : goal.returns
returns c = lemma c.reports_are_legal.ensures c.headline.ensures

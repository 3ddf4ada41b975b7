use Rattle.live_script.proofs.Unmet.{told_are_unmet}
use Rattle.live_script.proofs.laws.told_are_unmet.Goals as goal

pub returns : goal.returns
returns c = told_are_unmet c.headline.ensures c.numbers_stay.ensures c.legal_is_sound.ensures c.one_path.ensures c.one_forest.ensures

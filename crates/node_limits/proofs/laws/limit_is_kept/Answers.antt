-- See Bounding.antt.
use Rattle.node_limits.proofs.Bounding.{limit_is_kept as lemma}
use Rattle.node_limits.proofs.laws.limit_is_kept.Goals as goal

pub returns : goal.returns
returns c = lemma c.one_path.ensures c.legal_is_sound.ensures c.numbers_stay.ensures

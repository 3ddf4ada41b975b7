use Rattle.script_check.proofs.ReadBack.{certificates_read_back}
use Rattle.script_check.proofs.laws.certificates_read_back.Goals as goal

pub returns : goal.returns
returns c = certificates_read_back c.claims_read_back.ensures c.node_paths_can_be_read.ensures c.true_claims_can_be_read.ensures c.texts_read_back.ensures c.legal_is_sound.ensures

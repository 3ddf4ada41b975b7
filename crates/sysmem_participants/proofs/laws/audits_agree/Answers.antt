-- See Audited.antt.
use Rattle.sysmem_participants.proofs.Audited.{audits_agree}
use Rattle.sysmem_participants.proofs.laws.audits_agree.Goals as goal

pub returns : goal.returns
returns c = audits_agree c.confluence.ensures c.legal_is_sound.ensures c.one_path.ensures

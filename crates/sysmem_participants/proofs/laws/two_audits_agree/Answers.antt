-- See TwoAudits.antt.
use Rattle.sysmem_participants.proofs.TwoAudits.{two_audits}
use Rattle.sysmem_participants.proofs.laws.two_audits_agree.Goals as goal

pub returns : goal.returns
returns c = two_audits c.audits_agree.ensures c.legal_is_sound.ensures

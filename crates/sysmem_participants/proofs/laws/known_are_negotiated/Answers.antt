-- See Shown.antt.
use Rattle.sysmem_participants.proofs.Shown.{known_are_negotiated as lemma}
use Rattle.sysmem_participants.proofs.laws.known_are_negotiated.Goals as goal

pub returns : goal.returns
returns c = lemma c.verdicts_are_negotiated.ensures

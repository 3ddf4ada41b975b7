-- See Closing.antt.
use Rattle.sysmem_participants.proofs.Closing.{none_closed}
use Rattle.sysmem_participants.proofs.laws.none_closed.Goals as goal

pub returns : goal.returns
returns c = none_closed c.numbers_stay.ensures

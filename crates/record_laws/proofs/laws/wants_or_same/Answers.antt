use Rattle.record_laws.proofs.laws.wants_or_same.Goals as goal
use Rattle.record_laws.proofs.Wants.{participant_or_wants, platform_or_wants}

pub returns-clause-participants : goal.returns-clause-participants
returns-clause-participants c = participant_or_wants

pub returns-clause-platforms : goal.returns-clause-platforms
returns-clause-platforms c = platform_or_wants

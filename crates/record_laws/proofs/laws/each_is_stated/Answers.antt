use Rattle.record_laws.proofs.laws.each_is_stated.Goals as goal
use Rattle.record_laws.proofs.Participants.{participant_stated}
use Rattle.record_laws.proofs.Platforms.{platform_stated}

pub returns-clause-participants : goal.returns-clause-participants
returns-clause-participants c = participant_stated

pub returns-clause-platforms : goal.returns-clause-platforms
returns-clause-platforms c = platform_stated

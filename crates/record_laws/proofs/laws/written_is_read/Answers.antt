use Rattle.record_laws.proofs.laws.written_is_read.Goals as goal
use Rattle.record_laws.proofs.WrittenParticipants.{participant_read}
use Rattle.record_laws.proofs.WrittenPlatforms.{platform_read}

pub returns-clause-participants : goal.returns-clause-participants
returns-clause-participants c = participant_read

pub returns-clause-platforms : goal.returns-clause-platforms
returns-clause-platforms c = platform_read

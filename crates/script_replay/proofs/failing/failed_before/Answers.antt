use Rattle.script_replay.specs.Answer.{to_check, to_wait}
use Rattle.script_replay.proofs.failing.failed_before.Goals as goal

pub returns-in-Check-clause-asks : goal.returns-in-Check-clause-asks
returns-in-Check-clause-asks c = λ _. rw c.in-Check.is to_check

pub returns-in-Wait-clause-asks : goal.returns-in-Wait-clause-asks
returns-in-Wait-clause-asks c = λ _. rw c.in-Wait.is to_wait

use Rattle.script_replay.specs.Answer.{to_set_none}
use Rattle.script_replay.proofs.runner.Runner.set_constraints.Goals as goal

pub act-requires-clause-asks : goal.act-requires-clause-asks
act-requires-clause-asks c = rw (c.requires.stated, c.in-None.is) to_set_none

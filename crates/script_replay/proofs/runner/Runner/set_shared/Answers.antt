use Rattle.script_replay.proofs.Answering.{asks_set, lacks_as}
use Rattle.script_replay.proofs.runner.Runner.set_shared.Goals as goal

pub act-requires-clause-asks : goal.act-requires-clause-asks
act-requires-clause-asks c = asks_set _ _ _ _ c.requires.stated c.requires.read c.in-Ok.ensures

pub returns-in-Err : goal.returns-in-Err
returns-in-Err c = rw c.unshared.ensures.reply (lacks_as _ _ _ c.args.node _ _ c.requires.named c.requires.stated c.requires.read c.unshared.ensures.starved)

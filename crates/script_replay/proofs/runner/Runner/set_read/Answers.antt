use Rattle.script_replay.proofs.Answering.{asks_set, lacks_as, misread_as}
use Rattle.script_replay.proofs.runner.Runner.set_read.Goals as goal

pub act-requires-clause-asks : goal.act-requires-clause-asks
act-requires-clause-asks c = asks_set _ _ c.in-Ok.asked _ c.requires.stated c.in-Ok.ensures.taken c.in-Ok-new.ensures.ok

pub returns-in-Err : goal.returns-in-Err
returns-in-Err c =
    rw c.misread.ensures.reply (misread_as _ _ _ c.args.node _ c.in-Err.fault c.requires.named c.requires.stated c.in-Err.ensures.refused c.in-Err.ensures.wanting c.misread.ensures.starved)

pub returns : goal.returns
returns c = rw c.unshared.ensures.reply (lacks_as _ _ _ c.args.node _ c.in-Ok.asked c.requires.named c.requires.stated c.in-Ok.ensures.taken c.unshared.ensures.starved)

use Rattle.script_replay.specs.Events.{events_of}
use Rattle.script_replay.specs.Replayed.{end_of}
use Rattle.script_story.specs.Told.{AreTold}
use Rattle.script_story.proofs.telling.keep_fates.Given as goal

abbrev pub invariant-loop-event : goal.invariant-loop-event
invariant-loop-event l = AreTold (end_of l.told).platform (events_of l.told.events) l.story

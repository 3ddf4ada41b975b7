-- The replies so far are those to the calls before this event.
use Rattle.std.proofs.Common.{◌≡◌, map, take}
use Rattle.script_replay.specs.Among.{replies_in}
use Rattle.script_replay.specs.Events.{event_seen}
use Rattle.script_threads.proofs.running.replies_in.Given as goal

abbrev pub invariant-loop-event : goal.invariant-loop-event
invariant-loop-event l = l.replies.items ≡ replies_in (map event_seen (take l.event-index l.event-items))

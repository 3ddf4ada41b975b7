-- The text so far, with the lines of the events that are left, is the whole text.
use Rattle.std.proofs.Common.{◌≡◌, ◌++◌, drop, map}
use Rattle.std.specs.String.{string_bytes}
use Rattle.script_replay.specs.Events.{event_seen, events_text}
use Rattle.script_replay.proofs.event.put_events.Given as goal

abbrev pub invariant-loop-event : goal.invariant-loop-event
invariant-loop-event l = string_bytes l.text ++ events_text l.platform (map event_seen (drop l.event-index l.events)) ≡ string_bytes l.fn.text ++ events_text l.platform (map event_seen l.events)

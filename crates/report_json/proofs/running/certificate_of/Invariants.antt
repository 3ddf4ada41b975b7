-- The decisions so far are those before this event.
use Rattle.std.proofs.Common.{◌≡◌, map, take}
use Rattle.script_replay.specs.Among.{decided_in}
use Rattle.script_replay.specs.Events.{event_seen}
use Rattle.script_run.specs.Certificate.{texts_of}
use Rattle.report_json.proofs.running.certificate_of.Given as goal

abbrev pub invariant-loop-event : goal.invariant-loop-event
invariant-loop-event l = l.pieces ≡ texts_of l.platform (decided_in (map event_seen (take l.event-index l.event-items)))

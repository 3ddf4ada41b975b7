use Rattle.std.proofs.Common.{◌≤◌, ◌∙◌, length, arith}
use Rattle.script_replay.specs.Events.{events_of}
use Rattle.script_replay.specs.Replayed.{end_of}
use Rattle.report_json.proofs.Certifying.{certified_all, certified_more}
use Rattle.report_json.proofs.running.certificate_of.Goals as goal

pub loop-event-preserved : goal.loop-event-preserved
loop-event-preserved c =
    certified_more c.platform-platform.result.now c.as_slice-event-items.result.now c.loop-event.event-index c.event-item.result _ _ c.loop-event-test.true c.event-item.is c.loop-event.invariant c.in_ok-put_decision.ensures

pub returns : goal.returns
returns c =
    let items = c.as_slice-event-items.result.now in
    let all : length items ≤ c.loop-event.event-index = omega arith in
    certified_all (end_of c.args.replayed.now).platform c.platform-platform.result.now items c.loop-event.event-index (events_of c.args.replayed.now.events) c.loop-event.pieces all c.as_slice-event-items.ensures
    (c.platform-platform.ensures.platform ∙ c.book.ensures.platform) c.loop-event.invariant

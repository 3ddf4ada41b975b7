use Rattle.std.proofs.Common.{◌≤◌, length, arith}
use Rattle.script_replay.specs.Events.{events_of}
use Rattle.script_threads.proofs.Replying.{replies_all, reply_more}
use Rattle.script_threads.proofs.running.replies_in.Goals as goal

pub loop-event-preserved : goal.loop-event-preserved
loop-event-preserved c =
    reply_more c.as_slice-event-items.result.now c.loop-event.event-index c.event-item.result _ _ c.loop-event-test.true c.event-item.is c.loop-event.invariant c.in_ok-put_reply.ensures

pub returns : goal.returns
returns c =
    let items = c.as_slice-event-items.result.now in
    let all : length items ≤ c.loop-event.event-index = omega arith in
    replies_all items c.loop-event.event-index (events_of c.args.events.now) c.loop-event.replies.items all c.as_slice-event-items.ensures c.loop-event.invariant

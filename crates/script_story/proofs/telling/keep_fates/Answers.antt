use Rattle.std.proofs.Common.{◌∙◌, subst, sym}
use Rattle.std.specs.List.{Contains}
use Rattle.negotiation_inputs.specs.Platform.{PlatformFacts}
use Rattle.script_replay.specs.Events.{becomes, event_seen, events_of, fate_seen}
use Rattle.script_replay.specs.declared.event.Event.{Event}
use Rattle.script_replay.specs.Replayed.{end_of}
use Rattle.script_story.specs.Told.{AreTold}
use Rattle.script_story.specs.declared.story.Story.{Story}
use Rattle.script_story.proofs.Keeping.{event_there}
use Rattle.script_story.proofs.telling.keep_fates.Goals as goal
use Rattle.script_story.proofs.telling.keep_fates.Goals.{in-Call, in-Domain+in_ok-keep_fate-in-Domain}

pub loop-event-preserved : goal.loop-event-preserved
loop-event-preserved c =
    let platform = (end_of c.args.told.now).platform in
    let events = events_of c.args.told.now.events in
    let same = c.platform-platform.ensures.platform ∙ c.book.ensures.platform in
    elim c.match-event.branch [
      | in-Call w ↦ subst (λ (s : Story). AreTold platform events s) (sym w.story-is) c.loop-event.invariant
      | in-Domain+in_ok-keep_fate-in-Domain w ↦
          let one = w.in-Domain.one in
          let has : Contains events (becomes one.path (fate_seen one.fate)) =
          subst (λ (e : Event). Contains events (event_seen e)) w.in-Domain.is
          (event_there c.as_slice-event-items.result.now events c.loop-event.event-index c.event-item.result c.as_slice-event-items.ensures c.loop-event-test.true c.event-item.is) in
          let before = subst (λ (p : PlatformFacts). AreTold p events c.loop-event.story) (sym same) c.loop-event.invariant in
          subst (λ (s : Story). AreTold platform events s) (sym w.story-is)
          (subst (λ (p : PlatformFacts). AreTold p events w.keep_fate.new.story) same (w.in_ok-keep_fate-in-Domain.ensures events has before))
    ]

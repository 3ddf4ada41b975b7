use Rattle.std.proofs.Common.{map, sym, ◌∙◌, ap}
use Rattle.std.specs.String.{string_bytes}
use Rattle.script_reading.specs.Seen.{call_seen}
use Rattle.negotiation_inputs.specs.Platform.{PlatformFacts}
use Rattle.script_replay.specs.Events.{events_of, fate_seen, fate_text}
use Rattle.script_replay.specs.Replayed.{end_of}
use Rattle.script_story.proofs.Keeping.{leaves_platform, reported_on, said_as}
use Rattle.script_story.proofs.scenario.Scenario.outcome.Goals as goal

pub returns-in-Some : goal.returns-in-Some
returns-in-Some c =
    let told = c.in_ok-told.ensures in
    let platform = c.args.self.now.platform.now in
    let calls = map call_seen c.args.calls.now in
    let happens = told.happens in
    let same = c.platform.ensures.platform ∙ (c.book.ensures.platform ∙ leaves_platform platform calls (string_bytes c.in_ok-told.told.report.text) (end_of c.in_ok-told.told) told.leaves) in
    reported_on platform calls (string_bytes c.in_ok-told.told.report.text) (events_of c.in_ok-told.told.events) (end_of c.in_ok-told.told) told.leaves.decisions c.args.path.now _ told.text
    (sym told.starved ∙ c.if-told.false) happens told.leaves.report
    (said_as platform (events_of c.in_ok-told.told.events) c.args.path.now (fate_seen c.in-Some.fate.now) _ (rw c.in-Some.is at c.in_ok-fate.ensures) c.in_ok-of-in-Some.ensures.fate
    (c.in_ok-of-in-Some.ensures.said ∙ ap (λ (p : PlatformFacts). fate_text p (fate_seen c.in-Some.fate.now)) same))

-- One more field, with its reason if there is one.
use Rattle.std.proofs.Common.{sym, ◌∙◌}
use Rattle.settings_reasons.specs.True.{place_reason}
use Rattle.settings_reasons.proofs.Participants.{field_more, field_none}
use Rattle.value_sources.specs.Sources.{all_asked}
use Rattle.settings_reasons.proofs.place_reason.place_reasons.Goals as goal
use Rattle.settings_reasons.proofs.place_reason.place_reasons.Goals.{in-Some+in_ok-push, in_default}

pub loop-field-preserved : goal.loop-field-preserved
loop-field-preserved c =
    let reason_of = place_reason c.args.heap.now c.args.coherency (all_asked c.args.participants.now) in
    elim c.match-branch-2.branch [
      | in-Some+in_ok-push w ↦ rw w.reasons-is (field_more reason_of _ c.loop-field.field-index _ _ c.loop-field.reasons.items _ c.loop-field-test.true (sym w.in-Some.is ∙ c.in_ok-reason.ensures) w.in_ok-push.ensures.items c.loop-field.invariant)
      | in_default w ↦ rw w.reasons-is (field_none reason_of _ c.loop-field.field-index _ c.loop-field.reasons.items c.loop-field-test.true (sym w.in_default.is ∙ c.in_ok-reason.ensures) c.loop-field.invariant)
    ]

-- One more line, with all participants if it is true of them.
use Rattle.value_sources.specs.Sources.{all_asked}
use Rattle.settings_reasons.proofs.Offers.{line_more, line_none, not_decided}
use Rattle.settings_reasons.proofs.offer_reason.true_lines.Goals as goal
use Rattle.settings_reasons.proofs.offer_reason.true_lines.Goals.{then-is_true+in_ok-reason+in_ok-push, else-is_true}

pub loop-field-preserved : goal.loop-field-preserved
loop-field-preserved c =
    let asked = all_asked c.args.participants.now in
    let decides = c.is_true.ensures c.args.offer.now _ c.requires in
    elim c.if-is_true.branch [
      | then-is_true+in_ok-reason+in_ok-push w ↦ rw w.reasons-is (line_more c.args.offer.now c.args.whole asked c.args.fields.now c.loop-field.field-index _ _ c.loop-field.reasons.items _ c.loop-field-test.true (decides.0 w.if-is_true.true) w.in_ok-reason.ensures w.in_ok-push.ensures.items c.loop-field.invariant)
      | else-is_true w ↦ rw w.reasons-is (line_none c.args.offer.now c.args.whole asked c.args.fields.now c.loop-field.field-index _ c.loop-field.reasons.items c.loop-field-test.true (not_decided c.is_true.result decides w.if-is_true.false) c.loop-field.invariant)
    ]

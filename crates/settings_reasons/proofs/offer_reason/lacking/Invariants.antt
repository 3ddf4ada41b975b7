-- Those so far lack it.
use Rattle.std.proofs.Common.{◌≡◌, filter, take}
use Rattle.settings_reasons.specs.True.{lacks}
use Rattle.value_sources.specs.Sources.{all_asked}
use Rattle.settings_reasons.proofs.offer_reason.lacking.Given as goal

abbrev pub invariant-loop-participant : goal.invariant-loop-participant
invariant-loop-participant l = all_asked l.those.items ≡ filter (lacks l.lack l.offer) (all_asked (take l.participant-index l.participants))

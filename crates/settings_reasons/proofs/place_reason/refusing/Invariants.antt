-- Those so far refuse it.
use Rattle.std.proofs.Common.{◌≡◌, filter, take}
use Rattle.settings_reasons.specs.True.{refuses}
use Rattle.value_sources.specs.Sources.{all_asked}
use Rattle.settings_reasons.proofs.place_reason.refusing.Given as goal

abbrev pub invariant-loop-participant : goal.invariant-loop-participant
invariant-loop-participant l = all_asked l.those.items ≡ filter (refuses l.field l.heap l.coherency) (all_asked (take l.participant-index l.participants))

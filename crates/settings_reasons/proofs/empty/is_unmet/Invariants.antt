-- What those so far ask.
use Rattle.std.proofs.Common.{◌≤◌, take}
use Rattle.sysmem_merge.specs.Aggregate.{StandsFor}
use Rattle.value_sources.specs.Sources.{all_asked}
use Rattle.settings_reasons.proofs.empty.is_unmet.Given as goal

abbrev pub invariant-loop-participant : goal.invariant-loop-participant
invariant-loop-participant l = record {
  stands : StandsFor l.asked l.platform (all_asked (take l.participant-index l.participants));
  few : l.asked.added ≤ l.participant-index;
}

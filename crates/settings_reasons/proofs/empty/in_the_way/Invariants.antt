-- Those who are kept leave no settings.
use Rattle.settings_reasons.specs.True.{AreInTheWay}
use Rattle.settings_reasons.proofs.empty.in_the_way.Given as goal

abbrev pub invariant-loop-participant : goal.invariant-loop-participant
invariant-loop-participant l = AreInTheWay l.platform l.participants l.kept.items

-- After the first one, those so far without it.
use Rattle.std.proofs.Common.{◌≡◌, take}
use Rattle.other_outcomes.specs.OtherPlatform.{with_first}
use Rattle.other_outcomes.proofs.later_pairs.pairs_from.Given as goal

abbrev pub invariant-loop-other : goal.invariant-loop-other
invariant-loop-other l = l.made.items ≡ with_first (take l.other-index l.pairs) l.first

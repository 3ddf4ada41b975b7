-- Each of those so far is never used.
use Rattle.std.proofs.Common.{All}
use Rattle.settings_reasons.specs.Held.{IsNeverUsed}
use Rattle.settings_reasons.proofs.unused.unused_entries.Given as goal

abbrev pub invariant-loop-index : goal.invariant-loop-index
invariant-loop-index l = All (IsNeverUsed l.platform.pairs l.entries) l.found.items

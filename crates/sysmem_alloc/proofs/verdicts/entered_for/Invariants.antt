-- The entries from the index on have no decision of the domain.
use Rattle.std.proofs.Common.{◌≡◌, None, drop}
use Rattle.std.specs.List.{filter_map}
use Rattle.sysmem_alloc.specs.Decision.{decision_for}
use Rattle.sysmem_alloc.specs.Entry.{decision_in}
use Rattle.sysmem_alloc.proofs.verdicts.entered_for.Given as goal

abbrev pub invariant-loop-index : goal.invariant-loop-index
invariant-loop-index l = decision_for (filter_map decision_in (drop l.index l.history)) l.domain ≡ None

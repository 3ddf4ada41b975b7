-- Each level below chooses a child of one more group, and fewer are left.
use Rattle.std.proofs.Common.{◌+◌}
use Rattle.domain_reasons.proofs.selecting.+add_empty.Given as goal

abbrev pub decreases-add_empty : goal.decreases-add_empty
decreases-add_empty l = l.levels + l.levels

abbrev pub decreases-add_group : goal.decreases-add_group
decreases-add_group l = l.levels + l.levels + 1

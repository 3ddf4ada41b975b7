-- None of the nodes so far is a group of the domain.
use Rattle.std.proofs.Common.{◌≡◌, false, take}
use Rattle.std.specs.List.{list_any}
use Rattle.live_script.specs.Refusing.{is_group_of}
use Rattle.live_script.proofs.refusal.has_group.Given as goal

abbrev pub invariant-loop-number : goal.invariant-loop-number
invariant-loop-number l = list_any (is_group_of l.domain) (take l.number l.tree.nodes) ≡ false

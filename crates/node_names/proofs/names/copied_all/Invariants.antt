use Rattle.std.proofs.Common.{◌≡◌, take}
use Rattle.node_names.proofs.names.copied_all.Given as goal

abbrev pub invariant-loop-named : goal.invariant-loop-named
invariant-loop-named l = l.copy.items ≡ take l.named-index l.nodes

-- What is added so far, and what is left.
use Rattle.std.proofs.Common.{◌≡◌, ◌++◌, drop}
use Rattle.sysmem_alloc.specs.Accepted.{marked_of}
use Rattle.sysmem_alloc.proofs.bases.accepted_in.Given as goal

abbrev pub invariant-loop-node : goal.invariant-loop-node
invariant-loop-node l = l.kept.items ++ marked_of l.marks (drop l.node-index l.chosen) ≡ marked_of l.marks l.chosen

-- Who was added and who is yet to be are all that are to be added.
use Rattle.std.proofs.Common.{◌≡◌, ◌++◌, drop}
use Rattle.std.specs.Vec.{vec_capacity}
use Rattle.sysmem_alloc.specs.Marks.{ready_unmarked}
use Rattle.sysmem_alloc.specs.Sound.{roots_of}
use Rattle.sysmem_alloc.proofs.ready.add_ready.Given as goal

abbrev pub invariant-loop-index : goal.invariant-loop-index
invariant-loop-index l = record {
  all : l.waiting.items ++ ready_unmarked l.tree l.marks l.index (drop l.index (roots_of l.tree)) ≡ l.initial.waiting.items ++ ready_unmarked l.tree l.marks 0 (roots_of l.tree);
  reserved : vec_capacity l.waiting ≡ vec_capacity l.initial.waiting;
}

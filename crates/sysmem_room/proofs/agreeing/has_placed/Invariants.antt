-- If what is before the place agrees with the actions that are left, what is before the last place agrees with all.
use Rattle.sysmem_room.proofs.Placing.{Backed}
use Rattle.sysmem_room.proofs.agreeing.has_placed.Given as goal

abbrev pub invariant-loop-index : goal.invariant-loop-index
invariant-loop-index l = Backed l.book.history l.node l.actions l.last l.place l.index

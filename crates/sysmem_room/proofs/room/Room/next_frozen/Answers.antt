-- See Lacking.antt.
use Rattle.std.proofs.Common.{[], refl, arith}
use Rattle.sysmem_room.proofs.Lacking.{next_turn}
use Rattle.sysmem_room.proofs.room.Room.next_frozen.Goals as goal

pub loop-init : goal.loop-init
loop-init g c = (omega arith, ([], refl))

pub loop-preserved : goal.loop-preserved
loop-preserved g c = next_turn _ _ _ _ _ c.give_up.ensures c.loop.invariant

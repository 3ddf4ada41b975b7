-- What C's handle of a box owns.
use Rattle.std.specs.Prelude.{Option, Some, None, true, false}
use mathlib.Core.Bool.{Bool}
use base.Fml.{Fml, fsep, feq}
use denote.RawPtr.{Ptr}
use Rattle.std.specs.Box.Ownership.{box_owns}
use Rattle.std.specs.Global.{Global}
use Rattle.std_heap.specs.contracts.GlobalAllocator.TheImpl.{ghosts}
use Rattle.live_book.specs.contracts.object.Object.{the_row}

-- ownership of the value at p and the right to free its block, where there is one
abbrev pub held_owns : Global → Ptr → Bool → Option the_row.Denot → Fml
held_owns alloc p full None = feq Bool full false
held_owns alloc p full (Some x) = fsep (feq Bool full true) (box_owns (ghosts.dealloc_token alloc) the_row p x)

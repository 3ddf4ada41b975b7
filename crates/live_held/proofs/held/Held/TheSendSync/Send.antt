-- What a handle owns is a box's, which any thread may have.
use mathlib.Core.Bool.{Bool, true, false}
use Rattle.std.specs.Prelude.{Option, Some, None}
use Rattle.std.specs.Global.{Global}
use Rattle.live_held.specs.Owned.{held_owns}
use base.Shift.{Keyless}
use denote.RawPtr.{Ptr}
use mir.Raw.{raw}
use denote.Memory.{lone}
use denote.Struct.Struct.{exits_of}
use denote.Struct.Owning.{shape, fields, to}
use denote.Param.Send.{IsSend, AllSend, owning_send, struct_send, sendable}
use Rattle.std.proofs.Crossing as heap
use Rattle.std_alloc.proofs.SendSync.{quiet, lies}
use Rattle.std_heap.proofs.Global.TheSendSync as handle
use Rattle.live_book.specs.contracts.object.Object as Live
use Rattle.live_book.proofs.object.Object.TheSendSync.{the_send as live}
use Rattle.live_held.specs.contracts.held.Held.{the_row, the_type}

owned : (a : Global) (p : Ptr) (t : Bool) (v : Option (Live.the_row).Denot) → Keyless (held_owns a p t v)
owned a p t None = tt
owned a p t (Some x) = (tt, (lies Live.the_row live p x, heap.frees.frees a (raw (lone Live.the_row.mir)) p))

pub send : IsSend the_row
send =
    let all : AllSend (fields the_type) = (search sendable, (search sendable, (handle.the_field_send, tt))) in
    owning_send the_type all (λ d. owned d.alloc d.at d.is_full d.value)
    (λ k. quiet (to the_type) (exits_of k (fields the_type)) ((struct_send (shape the_type) all).leaving k))

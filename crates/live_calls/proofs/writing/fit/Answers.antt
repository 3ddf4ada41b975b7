-- A text has room, or hasn't.
use Rattle.std.proofs.Common.{refl}
use Rattle.caller_buffers.specs.Filled.{fits, lacks_room}
use Rattle.live_calls.proofs.writing.fit.Goals as goal

pub returns-then-hand_out : goal.returns-then-hand_out
returns-then-hand_out c = fits refl (c.hand_out.ensures.out c.if-hand_out.true)

pub returns-else-hand_out : goal.returns-else-hand_out
returns-else-hand_out c = lacks_room refl (c.hand_out.ensures.small c.if-hand_out.false) (c.hand_out.ensures.kept c.if-hand_out.false)

-- The text is handed out, or has no room, or there was no memory for it.
use Rattle.std.proofs.Common.{refl, arith}
use Rattle.mezulobu.specs.Ends.{no_memory}
use Rattle.mezulobu.specs.Says.{RunSays}
use Rattle.mezulobu.proofs.Endings.{ends_out, ends_small}
use Rattle.mezulobu.proofs.mezulobu_rt_run.Goals as goal

pub returns-in_default : goal.returns-in_default
returns-in_default c = no_memory refl refl

pub returns-then-hand_out : goal.returns-then-hand_out
returns-then-hand_out c =
    ends_out (RunSays c.args.script.now) c.args.text.now c.hand_out.new.buffer c.len.result c.in-Ok.answer.status c.in-Ok.answer.text.items c.deref.result.now c.in-Ok.ensures (omega (arith, c.len.ensures, c.in-Ok.answer.text.ok.0)) c.deref.ensures.value
    (c.hand_out.ensures.out c.if-hand_out.true)

pub returns : goal.returns
returns c =
    ends_small (RunSays c.args.script.now) c.args.text.now c.hand_out.new.buffer c.len.result c.in-Ok.answer.status c.in-Ok.answer.text.items c.deref.result.now c.in-Ok.ensures (omega (arith, c.len.ensures, c.in-Ok.answer.text.ok.0)) c.deref.ensures.value
    (c.hand_out.ensures.small c.if-hand_out.false) (c.hand_out.ensures.kept c.if-hand_out.false)

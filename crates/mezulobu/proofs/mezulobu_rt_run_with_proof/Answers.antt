-- Both texts are handed out, or one has no room, or there was no memory for them.
use Rattle.std.proofs.Common.{refl, arith}
use Rattle.mezulobu.specs.Ends.{no_memory_for_both}
use Rattle.mezulobu.specs.Says.{ProvedRunSays}
use Rattle.mezulobu.proofs.Endings.{ends_both, ends_one_small}
use Rattle.mezulobu.proofs.mezulobu_rt_run_with_proof.Goals as goal

pub returns-in_default : goal.returns-in_default
returns-in_default c = no_memory_for_both refl refl refl refl

pub returns-then-hand_out_both : goal.returns-then-hand_out_both
returns-then-hand_out_both c =
    ends_both (ProvedRunSays c.args.script.now) c.args.text.now c.hand_out_both.new.buffer c.args.certificate.now c.hand_out_both.new.other_buffer c.len.result c.len-2.result c.in-Ok.answer.status
    c.in-Ok.answer.text.items c.deref.result.now c.in-Ok.answer.certificate.items c.deref-2.result.now c.in-Ok.ensures (omega (arith, c.len.ensures, c.in-Ok.answer.text.ok.0)) (omega (arith, c.len-2.ensures, c.in-Ok.answer.certificate.ok.0)) c.deref.ensures.value c.deref-2.ensures.value
    (c.hand_out_both.ensures.out c.if-hand_out_both.true) (c.hand_out_both.ensures.other_out c.if-hand_out_both.true)

pub returns : goal.returns
returns c =
    ends_one_small (ProvedRunSays c.args.script.now) c.args.text.now c.hand_out_both.new.buffer c.args.certificate.now c.hand_out_both.new.other_buffer c.len.result c.len-2.result c.in-Ok.answer.status
    c.in-Ok.answer.text.items c.deref.result.now c.in-Ok.answer.certificate.items c.deref-2.result.now c.in-Ok.ensures (omega (arith, c.len.ensures, c.in-Ok.answer.text.ok.0)) (omega (arith, c.len-2.ensures, c.in-Ok.answer.certificate.ok.0)) c.deref.ensures.value c.deref-2.ensures.value
    (c.hand_out_both.ensures.small c.if-hand_out_both.false) (c.hand_out_both.ensures.kept c.if-hand_out_both.false) (c.hand_out_both.ensures.other_kept c.if-hand_out_both.false)

-- The script of a copy is handed out, or there is none.
use Rattle.std.proofs.Common.{Some, ap, refl, subst}
use Rattle.caller_buffers.specs.Filled.{Fits}
use Rattle.live_script.specs.Script.{IsScriptOf, IsTooLong}
use Rattle.live_script.specs.Texts.{writes, write_misused}
use Rattle.live_script.proofs.Texts.{not_written}
use Rattle.live_script.proofs.calls.script_in.Goals as goal

pub returns-in_default : goal.returns-in_default
returns-in_default c = write_misused (λ s e. c.in_default.not-Snapshot s (cc e)) refl refl

pub returns-in-Ok : goal.returns-in-Ok
returns-in-Ok c =
    writes c.in-Snapshot.copy c.in-Ok.script.items c.fit.result (ap Some c.in-Snapshot.is) c.in-Ok.ensures.script
    (subst (λ t. Fits t c.args.text.now c.fit.new.text c.fit.new.size c.fit.result) c.deref.ensures.value c.fit.ensures)

pub returns-in-Err : goal.returns-in-Err
returns-in-Err c =
    not_written IsScriptOf IsTooLong (Some c.args.object.now) c.args.text.now c.args.size.now c.unwritten.new.size c.in-Snapshot.copy c.in-Err.why c.unwritten.result (ap Some c.in-Snapshot.is)
    c.in-Err.ensures.long c.unwritten.ensures.none c.unwritten.ensures.starves c.unwritten.ensures.size

use Rattle.std.proofs.Common.{Err, subst}
use Rattle.std.proofs.lemmas.Result.{err_from_is_err_and}
use Rattle.script_threads.specs.declared.playing.PlayReport.{PlayReport}
use Rattle.script_threads.specs.Run.{IsPlayable, TellsOf}
use Rattle.script_threads.proofs.Ending.{played-part, played-refused, played-unread, played-done, played-starved}
use Rattle.script_threads.proofs.running.run_threads.Goals as goal

pub returns-in_err-told-clause-played : goal.returns-in_err-told-clause-played
returns-in_err-told-clause-played g c =
    let failed = err_from_is_err_and c.from_residual-in_err-told.result c.from_residual-in_err-told.ensures.1 in
    let said = subst (λ bytes. TellsOf {X = PlayReport} bytes (Err c.in_err-told.field-0.0)) c.deref.ensures.value c.in_err-told.ensures.tells in
    played-refused _ _ _ c.in_ok-bytes.bytes.items c.in_ok-bytes.ensures.bytes _ c.in_err-told.field-0.0 (cc (failed.1, failed.2)) said

pub returns-in_err-write_fully-clause-played : goal.returns-in_err-write_fully-clause-played
returns-in_err-write_fully-clause-played g c =
    let failed = err_from_is_err_and c.from_residual-in_err-write_fully.result c.from_residual-in_err-write_fully.ensures.1 in
    let said = subst IsPlayable c.deref.ensures.value c.in_ok-told.ensures.tells in
    let front = rw c.as_bytes.ensures.value at c.in_err-write_fully.ensures.front in
    played-part _ _ _ _ c.in_ok-bytes.bytes.items c.in_ok-bytes.ensures.bytes said _ _ c.in_ok-told.ensures.text _ (cc (failed.1, failed.2)) front

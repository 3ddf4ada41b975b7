use Rattle.std.proofs.Common.{Err, Ok, subst}
use Rattle.std.proofs.lemmas.Result.{err_from_is_err_and}
use Rattle.serde_json.specs.Data.{Data}
use Rattle.serde_json.specs.View.{view}
use Rattle.serde_json.specs.declared.value.Value.{Value}
use Rattle.script_reading.specs.Faults.{GivesOneOf}
use Rattle.script_reading.specs.Text.{IsValue, Outcome}
use Rattle.report_json.proofs.Input.{refused_bytes, refused_input, refused_spelled}
use Rattle.report_json.proofs.running.run_as_json.Goals as goal

pub returns-in_err-value-clause-refused : goal.returns-in_err-value-clause-refused
returns-in_err-value-clause-refused g c = λ fault is.
    let failed = err_from_is_err_and c.from_residual-in_err-value.result c.from_residual-in_err-value.ensures.1 in
    let said = subst (λ bytes. GivesOneOf {X = Value} {A = Data} view (Err c.in_err-value.field-0.0) (Outcome IsValue bytes)) c.deref.ensures.value c.in_err-value.ensures in
    refused_input _ _ c.in_ok-bytes.bytes.items fault c.in_ok-bytes.ensures.bytes (refused_bytes c.in_ok-bytes.bytes.items c.in_err-value.field-0.0 failed.0 fault said failed.2 (cc (failed.1, is)))

pub returns-in_err-replayed-clause-refused : goal.returns-in_err-replayed-clause-refused
returns-in_err-replayed-clause-refused g c = λ fault is.
    let failed = err_from_is_err_and c.from_residual-in_err-replayed.result c.from_residual-in_err-replayed.ensures.1 in
    let spelled = subst (λ bytes. Outcome IsValue bytes (Ok (view c.in_ok-value.value))) c.deref.ensures.value c.in_ok-value.ensures in
    refused_input _ _ c.in_ok-bytes.bytes.items fault c.in_ok-bytes.ensures.bytes (refused_spelled c.in_ok-bytes.bytes.items (view c.in_ok-value.value) fault spelled (c.in_err-replayed.ensures.refused fault (cc (failed.1, failed.2, is))))

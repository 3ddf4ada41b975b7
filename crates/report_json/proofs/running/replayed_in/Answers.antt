use Rattle.std.proofs.Common.{List, map, subst}
use Rattle.std.proofs.lemmas.Result.{err_from_is_err_and}
use Rattle.serde_json.specs.View.{view}
use Rattle.script_reading.specs.Seen.{call_seen, script_seen}
use Rattle.script_reading.specs.declared.call.Call.{Call}
use Rattle.script_replay.specs.Events.{HappensTo, events_of}
use Rattle.script_replay.specs.Proving.{AreProved}
use Rattle.script_replay.specs.Replayed.{end_of}
use Rattle.report_json.proofs.Input.{refused_value}
use Rattle.report_json.proofs.running.replayed_in.Goals as goal

pub returns-in_err-script-clause-refused : goal.returns-in_err-script-clause-refused
returns-in_err-script-clause-refused c = λ fault is.
    let failed = err_from_is_err_and c.from_residual.result c.from_residual.ensures.1 in
    refused_value (view c.args.value.now) c.in_err-script.field-0.0 failed.0 fault c.in_err-script.ensures failed.2 (cc (failed.1, is))

pub returns-in-Ok-clause-happens : goal.returns-in-Ok-clause-happens
returns-in-Ok-clause-happens c =
    let script = c.in_ok-script.script in
    record {
      script = script_seen script;
      read = c.in_ok-script.ensures;
      happens = subst (λ (calls : List Call). HappensTo script.platform (map call_seen calls) AreProved (events_of c.in-Ok.replayed.events) (end_of c.in-Ok.replayed)) c.deref.ensures.value c.in-Ok.ensures.happens;
    }

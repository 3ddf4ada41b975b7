use Rattle.std.proofs.Common.{sym, map, Vec, Global}
use Rattle.std.proofs.lemmas.Result.{err_from_is_err_and}
use Rattle.serde_json.specs.View.{view}
use Rattle.script_reading.specs.declared.script.Script.{Script}
use Rattle.script_reading.specs.declared.call.Call.{Call}
use Rattle.script_reading.specs.Script.{calls_of}
use Rattle.script_reading.specs.Seen.{script_seen, call_seen}
use Rattle.script_reading.proofs.CallsLemmas.{fault_given, script-crowded, script-fault, script-held}
use Rattle.script_reading.proofs.script.read_script.Goals as goal

pub returns-then-calls-gt-MOST_CALLS : goal.returns-then-calls-gt-MOST_CALLS
returns-then-calls-gt-MOST_CALLS c =
    script-crowded calls_of (view c.args.script.now) _ c.in-Some.calls.now _ (sym c.in-Some.ensures) c.in_ok-platform.ensures c.if-calls-gt-MOST_CALLS.true

pub returns-in_err-calls : goal.returns-in_err-calls
returns-in_err-calls c =
    let p = err_from_is_err_and c.from_residual-in_err-calls.result c.from_residual-in_err-calls.ensures.1 in
    rw (p.1, p.2) (fault_given {X = Vec Call Global} {Y = Script} (λ calls. map call_seen calls.items) script_seen _ _ _
    (script-fault calls_of (view c.args.script.now) _ c.in-Some.calls.now _ (sym c.in-Some.ensures) c.in_ok-platform.ensures c.if-calls-gt-MOST_CALLS.false)
    c.in_err-calls.ensures)

pub returns : goal.returns
returns c =
    script-held calls_of (view c.args.script.now) _ c.in-Some.calls.now _ (sym c.in-Some.ensures) c.in_ok-platform.ensures c.if-calls-gt-MOST_CALLS.false _ c.in_ok-calls.ensures

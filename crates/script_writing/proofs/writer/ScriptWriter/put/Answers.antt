-- A script has one call more.
use Rattle.std.proofs.Common.{◌++◌, ◌∙◌, Bor, List, ap, ℕ}
use Rattle.std.specs.Prelude.{option_map}
use Rattle.std.specs.String.{string_bytes}
use Rattle.script_reading.specs.Seen.{act_seen}
use Rattle.script_writing.specs.Call.{WrittenCall, call_text}
use Rattle.script_writing.specs.Script.{Begun}
use Rattle.script_writing.proofs.Growing.{more_taken}
use Rattle.script_writing.proofs.writer.ScriptWriter.put.Goals as goal

pub returns : goal.returns
returns c = λ platform calls taken.
    let here = rw (← c.self.view_is) at taken in
    let w : Begun = record { text = string_bytes c.self.inside.text; later = c.self.inside.has_calls } in
    let call : WrittenCall = record { act = act_seen c.args.act; on = c.args.on.now; actor = option_map (λ (one : Bor (List ℕ)). one.now) c.args.actor } in
    more_taken w (string_bytes c.put_call.new.text) c.before_call.result.now platform calls call here c.before_call.ensures
    (c.in_ok-put_call.ensures.text ∙ ap (λ s. s ++ call_text call) c.in_ok-push_str.ensures.bytes) c.in_ok-put_call.ensures.spelled

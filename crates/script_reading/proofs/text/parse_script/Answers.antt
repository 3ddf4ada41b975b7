use Rattle.std.proofs.Common.{sym, ◌∙◌, refl, true≢false}
use Rattle.serde_json.specs.View.{view}
use Rattle.script_reading.specs.Text.{too_long, not_json, spelled}
use Rattle.script_reading.proofs.text.parse_script.Goals as goal

pub returns-then-bytes-gt-LONGEST : goal.returns-then-bytes-gt-LONGEST
returns-then-bytes-gt-LONGEST c = too_long c.if-bytes-gt-LONGEST.true

pub returns-in-Ok : goal.returns-in-Ok
returns-in-Ok c =
    let ok = c.in-Ok.ensures.ok in
    spelled (view c.in-Ok.value) c.if-bytes-gt-LONGEST.false (record { text = ok.0; spelled = ok.1 }) _ refl

pub returns-else-is_memory : goal.returns-else-is_memory
returns-else-is_memory c =
    not_json c.if-bytes-gt-LONGEST.false
    (λ value json.
    let none = c.in-Err.ensures.err (λ memory. true≢false (sym (c.is_memory.ensures.1 memory) ∙ c.if-is_memory.false)) json.text in
    cc (none, json.spelled))

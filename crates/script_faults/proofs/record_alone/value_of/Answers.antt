-- The value that bytes spell, or that they spell none.
use Rattle.std.proofs.Common.{sym, ◌∙◌, true≢false}
use Rattle.script_faults.proofs.record_alone.value_of.Goals as goal

pub returns-in-Ok : goal.returns-in-Ok
returns-in-Ok c = let ok = c.in-Ok.ensures.ok in record { text = ok.0; spelled = ok.1 }

pub returns-else-is_memory : goal.returns-else-is_memory
returns-else-is_memory c value json =
    let none = c.in-Err.ensures.err (λ memory. true≢false (sym (c.is_memory.ensures.1 memory) ∙ c.if-is_memory.false)) json.text in
    cc (none, json.spelled)

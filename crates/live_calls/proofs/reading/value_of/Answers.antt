-- The value that bytes spell, or that they spell none.
use Rattle.std.proofs.Common.{sym, ◌∙◌, true≢false}
use Rattle.live_calls.proofs.reading.value_of.Goals as goal

pub returns-in-Ok-clause-spelled : goal.returns-in-Ok-clause-spelled
returns-in-Ok-clause-spelled c = let ok = c.in-Ok.ensures.ok in record { text = ok.0; spelled = ok.1 }

pub returns-else-is_memory-clause-platform : goal.returns-else-is_memory-clause-platform
returns-else-is_memory-clause-platform c value spells =
    let none = c.in-Err.ensures.err (λ memory. true≢false (sym (c.is_memory.ensures.1 memory) ∙ c.if-is_memory.false)) spells.text in
    cc (none, spells.spelled)

pub returns-else-is_memory-clause-constraints : goal.returns-else-is_memory-clause-constraints
returns-else-is_memory-clause-constraints c value spells =
    let none = c.in-Err.ensures.err (λ memory. true≢false (sym (c.is_memory.ensures.1 memory) ∙ c.if-is_memory.false)) spells.text in
    cc (none, spells.spelled)

use Rattle.std.proofs.Common.{◌∙◌}
use Rattle.sysmem_memory.specs.PlaceTable.{refuses_by, heap_fields, domain_fields}
use Rattle.list_lemmas.proofs.CallerLemmas.{find_front, find_rest}
use Rattle.sysmem_memory.proofs.FirstRefusing.{refused_by_first, allowed_by_none}
use Rattle.sysmem_memory.proofs.refusal.refuses.Goals as goal

pub returns-then-is_some-clause-first : goal.returns-then-is_some-clause-first
returns-then-is_some-clause-first c =
    find_front (λ f. refuses_by f c.args.memory.now c.args.usage c.args.heap.now c.args.domain) heap_fields domain_fields _ (c.heap_refuses-by_heap.ensures c.args.usage c.args.domain) c.if-is_some.ensures

pub returns-then-is_some-clause-refused : goal.returns-then-is_some-clause-refused
returns-then-is_some-clause-refused c =
    refused_by_first (λ f. refuses_by f c.args.memory.now c.args.usage c.args.heap.now c.args.domain) heap_fields _ (c.heap_refuses-by_heap.ensures c.args.usage c.args.domain)

pub returns-clause-first : goal.returns-clause-first
returns-clause-first c =
    c.domain_refuses.ensures ∙ find_rest (λ f. refuses_by f c.args.memory.now c.args.usage c.args.heap.now c.args.domain) heap_fields domain_fields _ (c.heap_refuses-by_heap.ensures c.args.usage c.args.domain) c.if-is_some.ensures

pub returns-clause-refused : goal.returns-clause-refused
returns-clause-refused c =
    refused_by_first (λ f. refuses_by f c.args.memory.now c.args.usage c.args.heap.now c.args.domain) domain_fields _ c.domain_refuses.ensures

pub returns-clause-allowed : goal.returns-clause-allowed
returns-clause-allowed c = allowed_by_none c.args.memory.now c.args.usage c.args.heap.now c.args.domain _ (returns-clause-first c)

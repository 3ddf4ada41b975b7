-- A field that is amiss, or a participant.
use Rattle.std.proofs.Common.{sym, ◌∙◌}
use Rattle.negotiation_inputs.proofs.Refused.{entries-apart, entries-differ, participant-by, permitted-told, told-no, usage-told}
use Rattle.negotiation_inputs.proofs.amiss.amiss_in_participant.Goals as goal

pub returns-then-not-is_of_families : goal.returns-then-not-is_of_families
returns-then-not-is_of_families c = told-no c.is_of_families.result c.if-not-is_of_families.true (λ is. c.is_of_families.ensures ∙ (usage-told c.args.usage).1 is)

pub returns-then-not-permits_few : goal.returns-then-not-permits_few
returns-then-not-permits_few c = told-no c.permits_few.result c.if-not-permits_few.true c.permits_few.ensures.1

pub returns-then-not-permits_named : goal.returns-then-not-permits_named
returns-then-not-permits_named c = told-no c.permits_named.result c.if-not-permits_named.true (λ all. c.permits_named.ensures ∙ (permitted-told c.args.memory.now.permitted_heaps).1 all)

pub returns-then-not-are_entries : goal.returns-then-not-are_entries
returns-then-not-are_entries c = told-no c.are_entries.result c.if-not-are_entries.true (λ are. c.are_entries.ensures.1 (are.0, entries-differ c.args.entries.now are.1))

pub returns : goal.returns
returns c =
    let are = c.are_entries.ensures.0 c.if-not-are_entries.false in
    participant-by c.args.usage c.args.memory.now c.args.entries.now c.amiss_in_entries.result ((usage-told c.args.usage).0 (sym c.is_of_families.ensures ∙ c.if-not-is_of_families.false))
    (c.permits_few.ensures.0 c.if-not-permits_few.false) ((permitted-told c.args.memory.now.permitted_heaps).0 (sym c.permits_named.ensures ∙ c.if-not-permits_named.false))
    (are.0, entries-apart c.args.entries.now are.1) c.amiss_in_entries.ensures

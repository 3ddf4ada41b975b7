use Rattle.std.proofs.Common.{sym, refl, ◌∙◌}
use Rattle.sysmem_merge.specs.Demands.{offer_demand}
use Rattle.sysmem_merge.proofs.Uncovered.{there, offer_uncovered, size_uncovered, place_uncovered, none_uncovered}
use Rattle.sysmem_merge.proofs.failing.first_uncovered.Goals as goal

pub returns-then-is_some-clause-first : goal.returns-then-is_some-clause-first
returns-then-is_some-clause-first c =
    let platform = c.args.platform.now in
    let s = c.args.settings.now in
    let p = c.args.asked.now in
    let heap = c.index-heaps-settings.result in
    let here = there c.heaps.result.now platform.heaps s.place.heap heap c.heaps.ensures.heaps c.requires c.index-heaps-settings.is in
    offer_uncovered platform s p heap c.failing_offer-in_offer.result here (c.failing_offer-in_offer.ensures.first heap p (sym c.entries.ensures.entries))

pub returns-then-is_some-2-clause-first : goal.returns-then-is_some-2-clause-first
returns-then-is_some-2-clause-first c =
    let platform = c.args.platform.now in
    let s = c.args.settings.now in
    let p = c.args.asked.now in
    let heap = c.index-heaps-settings.result in
    let here = there c.heaps.result.now platform.heaps s.place.heap heap c.heaps.ensures.heaps c.requires c.index-heaps-settings.is in
    size_uncovered platform s p heap c.failing_offer-in_offer.result c.failing_size-in_size.result here (sym c.is_some.ensures ∙ c.if-is_some.false)
    (c.failing_offer-in_offer.ensures.none (offer_demand p) (sym c.entries.ensures.entries))
    (c.failing_size-in_size.ensures.first heap s p refl (sym c.memory.ensures.memory))

pub returns-clause-first : goal.returns-clause-first
returns-clause-first c =
    let platform = c.args.platform.now in
    let s = c.args.settings.now in
    let p = c.args.asked.now in
    let heap = c.index-heaps-settings.result in
    let here = there c.heaps.result.now platform.heaps s.place.heap heap c.heaps.ensures.heaps c.requires c.index-heaps-settings.is in
    place_uncovered platform s p heap c.failing_offer-in_offer.result c.failing_size-in_size.result c.refuses.result here (sym c.is_some.ensures ∙ c.if-is_some.false)
    (c.failing_offer-in_offer.ensures.none (offer_demand p) (sym c.entries.ensures.entries)) (sym c.is_some-2.ensures ∙ c.if-is_some-2.false)
    (rw c.memory.ensures.memory at c.failing_size-in_size.ensures.none) (rw (c.memory-2.ensures.memory, c.usage.ensures.usage) at c.refuses.ensures.first)

pub returns-clause-none : goal.returns-clause-none
returns-clause-none c =
    let platform = c.args.platform.now in
    let s = c.args.settings.now in
    let p = c.args.asked.now in
    let heap = c.index-heaps-settings.result in
    let here = there c.heaps.result.now platform.heaps s.place.heap heap c.heaps.ensures.heaps c.requires c.index-heaps-settings.is in
    none_uncovered platform s p heap c.failing_offer-in_offer.result c.failing_size-in_size.result c.refuses.result here (sym c.is_some.ensures ∙ c.if-is_some.false)
    (c.failing_offer-in_offer.ensures.none (offer_demand p) (sym c.entries.ensures.entries)) (sym c.is_some-2.ensures ∙ c.if-is_some-2.false)
    (rw c.memory.ensures.memory at c.failing_size-in_size.ensures.none) (rw (c.memory-2.ensures.memory, c.usage.ensures.usage) at c.refuses.ensures.first)

use Rattle.std.proofs.Common.{arith, ◌≡◌, length, refl, sym, ap, ◌∙◌, subst}
use Rattle.sysmem_memory.specs.Wishes.{MemoryWishes}
use Rattle.sysmem_merge.specs.Aggregate.{AreKept, StandsFor}
use Rattle.sysmem_merge.specs.Demands.{offer_demand}
use Rattle.sysmem_merge.specs.Kept.{Kept}
use Rattle.negotiation_inputs.specs.Platform.{offers_of}
use Rattle.sysmem_merge.proofs.Adding.{all_written, stands_push}
use Rattle.sysmem_merge.proofs.aggregate.Aggregate.add.Goals as goal

pub returns-clause-ok : goal.returns-clause-ok
returns-clause-ok c platform ps stands =
    let kept = subst (λ (k : Kept). StandsFor k platform ps) (sym c.self.view_is) stands in
    let wishes = c.memory.view_is ∙ c.memory-memory.ensures.memory in
    let low = ap (λ (m : MemoryWishes). m.min_size_bytes) wishes in
    let high = ap (λ (m : MemoryWishes). m.max_size_bytes) wishes in
    let many : c.self.inside.offers.len ≡ length c.add_to_offers.new.kept = omega (arith, c.add_to_offers.auto.kept, c.deref_mut.ensures.len) in
    rw (all_written c.self.inside.offers.len c.self.inside.offers.items c.add_to_offers.new.kept many)
    (stands_push _ _ platform ps c.args.asked.now kept refl
    (rw c.counts.ensures at c.add.ensures.added)
    (rw (c.heaps.ensures.heaps, c.memory-memory.ensures.memory, c.usage.ensures.usage) at c.add-2.ensures)
    (λ ds are. c.add_to_offers.ensures ds (offer_demand c.args.asked.now) (sym c.entries.ensures.entries)
    (subst (AreKept (offers_of c.self.inside.platform.now) ds) (sym c.deref_mut.ensures.value) are))
    (omega (arith, c.max-self-inside.ensures, low)) (omega (arith, c.min-self-inside.ensures, high)) refl)

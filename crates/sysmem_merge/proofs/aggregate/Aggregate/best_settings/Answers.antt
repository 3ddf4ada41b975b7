use Rattle.std.proofs.Common.{List, sym, subst}
use Rattle.sysmem_memory.specs.Heap.{HeapFacts}
use Rattle.sysmem_memory.specs.Place.{IsFirstPlace, HasNoPlace}
use Rattle.sysmem_merge.specs.Aggregate.{StandsFor}
use Rattle.sysmem_merge.specs.Kept.{Kept}
use Rattle.sysmem_merge.specs.Demands.{counts_asked, place_demands, offer_demands}
use Rattle.sysmem_merge.specs.FirstFit.{IsFirstFit}
use Rattle.sysmem_merge.specs.Reasons.{AreOffersRefused}
use Rattle.negotiation_inputs.specs.Platform.{PlatformFacts, offers_of}
use Rattle.sysmem_merge.proofs.Adding.{heaps_read, places_kept}
use Rattle.sysmem_merge.proofs.FirstFits.{offers_kept}
use Rattle.sysmem_merge.proofs.Reasons.{first_no_place, first_no_offer}
use Rattle.sysmem_merge.proofs.Together.{best_together, unmet_by_count, unmet_by_place, unmet_by_offer}
use Rattle.sysmem_merge.proofs.aggregate.Aggregate.best_settings.Goals as goal

pub returns-in-Err-clause-none : goal.returns-in-Err-clause-none
returns-in-Err-clause-none c platform ps stands =
    let kept = subst (λ (k : Kept). StandsFor k platform ps) (sym c.self.view_is) stands in
    unmet_by_count c.args.whole platform ps (c.in-Err.ensures.none (counts_asked ps) kept.counts)

pub returns-in_default-clause-none : goal.returns-in_default-clause-none
returns-in_default-clause-none c platform ps stands =
    let kept = subst (λ (k : Kept). StandsFor k platform ps) (sym c.self.view_is) stands in
    let same = heaps_read _ platform ps c.heaps.result.now kept c.heaps.ensures.heaps in
    unmet_by_place c.args.whole platform ps
    (subst (λ (hs : List HeapFacts). HasNoPlace hs (place_demands ps)) same
    (c.in_default.ensures.none (place_demands ps) (places_kept _ platform ps c.heaps.result.now kept c.heaps.ensures.heaps)))

pub returns-in_default-clause-reason : goal.returns-in_default-clause-reason
returns-in_default-clause-reason c platform ps stands =
    let kept = subst (λ (k : Kept). StandsFor k platform ps) (sym c.self.view_is) stands in
    let same = heaps_read _ platform ps c.heaps.result.now kept c.heaps.ensures.heaps in
    first_no_place c.args.whole platform ps c.in-Ok.count (c.in-Ok.ensures.cases (counts_asked ps) kept.counts)
    (subst (λ (hs : List HeapFacts). HasNoPlace hs (place_demands ps)) same
    (c.in_default.ensures.none (place_demands ps) (places_kept _ platform ps c.heaps.result.now kept c.heaps.ensures.heaps)))

pub returns-in_default-first_fit-clause-none : goal.returns-in_default-first_fit-clause-none
returns-in_default-first_fit-clause-none c platform ps stands =
    let kept = subst (λ (k : Kept). StandsFor k platform ps) (sym c.self.view_is) stands in
    unmet_by_offer c.args.whole platform ps
    (subst (λ (f : PlatformFacts). AreOffersRefused c.args.whole (offers_of f) (offer_demands ps)) kept.on
    (c.in_default-first_fit.ensures.none (offer_demands ps) (offers_kept _ platform ps c.deref.result.now kept c.deref.ensures.value) kept.sizes))

pub returns-in_default-first_fit-clause-reason : goal.returns-in_default-first_fit-clause-reason
returns-in_default-first_fit-clause-reason c platform ps stands =
    let kept = subst (λ (k : Kept). StandsFor k platform ps) (sym c.self.view_is) stands in
    let same = heaps_read _ platform ps c.heaps.result.now kept c.heaps.ensures.heaps in
    first_no_offer c.args.whole platform ps c.in-Ok.count c.in-Some.place (c.in-Ok.ensures.cases (counts_asked ps) kept.counts)
    (subst (λ (hs : List HeapFacts). IsFirstPlace hs (place_demands ps) c.in-Some.place) same
    (c.in-Some.ensures.first (place_demands ps) (places_kept _ platform ps c.heaps.result.now kept c.heaps.ensures.heaps)))
    (subst (λ (f : PlatformFacts). AreOffersRefused c.args.whole (offers_of f) (offer_demands ps)) kept.on
    (c.in_default-first_fit.ensures.none (offer_demands ps) (offers_kept _ platform ps c.deref.result.now kept c.deref.ensures.value) kept.sizes))

pub returns-clause-best : goal.returns-clause-best
returns-clause-best c platform ps stands =
    let kept = subst (λ (k : Kept). StandsFor k platform ps) (sym c.self.view_is) stands in
    let same = heaps_read _ platform ps c.heaps.result.now kept c.heaps.ensures.heaps in
    best_together c.args.whole platform ps c.in-Some-first_fit.fit c.in-Some.place c.in-Ok.count
    (subst (λ (f : PlatformFacts). IsFirstFit c.args.whole (offers_of f) (offer_demands ps) c.in-Some-first_fit.fit) kept.on
    (c.in-Some-first_fit.ensures.first (offer_demands ps) (offers_kept _ platform ps c.deref.result.now kept c.deref.ensures.value) kept.sizes))
    (subst (λ (hs : List HeapFacts). IsFirstPlace hs (place_demands ps) c.in-Some.place) same
    (c.in-Some.ensures.first (place_demands ps) (places_kept _ platform ps c.heaps.result.now kept c.heaps.ensures.heaps)))
    (c.in-Ok.ensures.cases (counts_asked ps) kept.counts)

use Rattle.std.proofs.Common.{◌++◌, refl, sym, ◌∙◌, subst}
use Rattle.std.proofs.lemmas.List.{map-append}
use Rattle.list_lemmas.proofs.CallerLemmas.{some_front}
use Rattle.sysmem_merge.specs.Demands.{counts_asked, place_demands, offer_demands}
use Rattle.sysmem_merge.specs.Sum.{SumFacts, SumsUp}
use Rattle.sysmem_formats.specs.declared.offer.Offer.TheVariants.{NoImage}
use Rattle.sysmem_merge.proofs.PairLists.{none_joined}
use Rattle.sysmem_merge.proofs.Passed.{none_more}
use Rattle.sysmem_merge.proofs.Summing.{found_place, sums_both}
use Rattle.sysmem_merge.proofs.sum.Sum.join_of.Goals as goal

pub returns-clause-sums : goal.returns-clause-sums
returns-clause-sums c others ps qs was above share =
    let platform = c.args.platform.now in
    let old = subst (λ (s : SumFacts). SumsUp s platform others) (sym c.self.view_is) was in
    let first = subst (λ (s : SumFacts). SumsUp s platform ps) (sym c.above.view_is) above in
    let second = subst (λ (s : SumFacts). SumsUp s platform qs) (sym (c.more.view_is ∙ c.sum-more.ensures)) share.sums in
    let tally = c.join.ensures.joined (counts_asked ps) (counts_asked qs) first.counts second.counts in
    let places = (rw c.heaps.ensures.heaps at c.join-2.ensures) (place_demands ps) (place_demands qs) first.places second.places in
    let place = found_place platform (ps ++ qs) c.first_place-self-inside.result ((rw c.heaps-2.ensures.heaps at c.first_place-self-inside.ensures.first) (place_demands (ps ++ qs)) (rw map-append places))
    ((rw c.heaps-2.ensures.heaps at c.first_place-self-inside.ensures.none) (place_demands (ps ++ qs)) (rw map-append places)) in
    sums_both _ _ _ platform ps qs first second tally places place
    (c.join_of.ensures NoImage (offer_demands ps) (offer_demands qs) first.no_image second.no_image)
    (none_joined c.self.inside.passed c.self.inside.joined c.above.inside.passed platform.pairs (offer_demands others) (offer_demands ps ++ offer_demands qs) c.self.inside.pairs.items old.pairs)
    (none_more c.above.inside.passed platform ps (ps ++ qs) (some_front ps qs) first.passed)
    c.max-self-inside.ensures c.min-self-inside.ensures refl

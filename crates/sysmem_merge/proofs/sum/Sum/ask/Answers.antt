use Rattle.std.proofs.Common.{[], ◌∷◌, sym, subst}
use Rattle.sysmem_formats.specs.declared.offer.Offer.TheVariants.{NoImage}
use Rattle.sysmem_merge.specs.Demands.{counts_asked, offer_demands}
use Rattle.sysmem_merge.specs.Sum.{IsPlaced, SumFacts, SumsUp}
use Rattle.sysmem_merge.proofs.PairFits.{first_without, one_refused}
use Rattle.sysmem_merge.proofs.Passed.{none_as, none_of_refused}
use Rattle.sysmem_merge.proofs.Reasons.{first_count, first_no_place}
use Rattle.sysmem_merge.proofs.Summing.{both_found}
use Rattle.sysmem_merge.proofs.Together.{best_together, unmet_by_count, unmet_by_place}
use Rattle.sysmem_merge.proofs.sum.Sum.ask.Goals as goal

pub returns-in-Err : goal.returns-in-Err
returns-in-Err c ps sums =
    let platform = c.args.platform.now in
    let kept = subst (λ (s : SumFacts). SumsUp s platform ps) (sym c.self.view_is) sums in (
      unmet_by_count c.args.whole platform ps (c.in-Err.ensures.none (counts_asked ps) kept.counts),
      first_count c.args.whole platform ps c.in-Err.field (c.in-Err.ensures.cases (counts_asked ps) kept.counts),
    )

pub returns-in_default : goal.returns-in_default
returns-in_default c ps sums =
    let platform = c.args.platform.now in
    let kept = subst (λ (s : SumFacts). SumsUp s platform ps) (sym c.self.view_is) sums in
    let none = subst (IsPlaced platform ps) c.in_default.is kept.place in
    (unmet_by_place c.args.whole platform ps none, first_no_place c.args.whole platform ps c.in-Ok.count (c.in-Ok.ensures.cases (counts_asked ps) kept.counts) none)

pub returns-in-Some-fit_of : goal.returns-in-Some-fit_of
returns-in-Some-fit_of c ps sums =
    let platform = c.args.platform.now in
    let ds = offer_demands ps in
    let kept = subst (λ (s : SumFacts). SumsUp s platform ps) (sym c.self.view_is) sums in
    rw c.settings_of.ensures (best_together c.args.whole platform ps c.in-Some-fit_of.fit c.in-Some.place c.in-Ok.count
    (first_without c.args.whole ds platform.pairs platform.colours c.in-Some-fit_of.fit (c.in-Some-fit_of.ensures.best ds kept.no_image kept.sizes) (c.in-Some-fit_of.ensures.named ds kept.no_image))
    (subst (IsPlaced platform ps) c.in-Some.is kept.place)
    (c.in-Ok.ensures.cases (counts_asked ps) kept.counts))

pub returns-in-None : goal.returns-in-None
returns-in-None c ps sums =
    let platform = c.args.platform.now in
    let ds = offer_demands ps in
    let kept = subst (λ (s : SumFacts). SumsUp s platform ps) (sym c.self.view_is) sums in
    record {
      both = both_found platform ps c.in-Ok.count c.in-Some.place (c.in-Ok.ensures.cases (counts_asked ps) kept.counts) (subst (IsPlaced platform ps) c.in-Some.is kept.place);
      no_image = none_of_refused c.args.whole platform ps (NoImage ∷ []) (one_refused c.args.whole ds NoImage (c.in-None.ensures.none ds kept.no_image kept.sizes));
      before = none_as c.args.whole platform ps c.self.inside.passed kept.passed;
    }

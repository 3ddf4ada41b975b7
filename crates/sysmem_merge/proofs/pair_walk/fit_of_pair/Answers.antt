use Rattle.std.proofs.Common.{arith, sym, ◌∙◌, ◌≡◌, true, Some, map, slice_get, subst, below_more}
use Rattle.std.proofs.lemmas.List.{length-map}
use Rattle.std.proofs.lemmas.Option.{slice_get-get_or, IfSome_then}
use Rattle.sysmem_formats.specs.declared.colour_space.ColourSpace.TheVariants.{Srgb}
use Rattle.sysmem_formats.specs.declared.offer.Offer.{Offer}
use Rattle.sysmem_formats.specs.declared.offer.Offer.TheVariants.{Image}
use Rattle.sysmem_merge.specs.Fit.{IsBestFit}
use Rattle.sysmem_merge.specs.Offers.{is_named}
use Rattle.sysmem_merge.specs.Reasons.{IsOfferRefused}
use Rattle.sysmem_merge.proofs.FirstFits.{place_of, first_from}
use Rattle.sysmem_merge.proofs.PairFits.{offer_in, refused_pair, unnamed_pair}
use Rattle.sysmem_merge.proofs.pair_walk.fit_of_pair.Goals as goal

pub returns-in-Refused-clause-none : goal.returns-in-Refused-clause-none
returns-in-Refused-clause-none c ds kept sizes =
    refused_pair c.args.whole c.args.pair c.args.colours.now ds c.args.kept.now c.in-Refused.field-0 c.in-Refused.is kept

pub returns-then-not-is_named_itself-clause-none : goal.returns-then-not-is_named_itself-clause-none
returns-then-not-is_named_itself-clause-none c ds kept sizes =
    unnamed_pair c.args.whole c.args.pair c.args.colours.now ds c.args.kept.now c.if-whole.true (sym c.is_named_itself.ensures ∙ c.if-not-is_named_itself.true) kept

pub returns-then-is_shared-clause-first : goal.returns-then-is_shared-clause-first
returns-then-is_shared-clause-first c ds kept sizes =
    let k = c.loop-colour.colour-index in
    let there = slice_get-get_or c.args.colours.now k Srgb (omega arith) in
    IfSome_then c.fit_in_colour.result (c.fit_in_colour.ensures.best ds kept sizes) (λ fit best.
    first_from c.args.whole (map (Image c.args.pair) c.args.colours.now) ds k fit (omega (arith, length-map c.args.colours.now (Image c.args.pair)))
    (λ o here. subst (λ p. IsBestFit p ds fit) (offer_in c.args.pair c.args.colours.now k _ o there here) best)
    (λ o here. subst (λ p. c.args.whole ≡ true → is_named p ds ≡ true) (offer_in c.args.pair c.args.colours.now k _ o there here) (c.is_shared.ensures.named c.args.pair ds kept c.if-is_shared.true))
    (c.loop-colour.invariant ds kept sizes))

pub returns-then-is_shared-clause-none : goal.returns-then-is_shared-clause-none
returns-then-is_shared-clause-none c ds kept sizes = c.fit_in_colour.ensures.none c.args.whole c.args.colours.now ds kept sizes

pub loop-colour-preserved : goal.loop-colour-preserved
loop-colour-preserved c ds kept sizes k o below offered =
    let os = map (Image c.args.pair) c.args.colours.now in
    let there = slice_get-get_or c.args.colours.now c.loop-colour.colour-index Srgb (omega arith) in
    below_more (λ j. (p : Offer) → slice_get os j ≡ Some p → IsOfferRefused c.args.whole p ds) c.loop-colour.colour-index
    (λ j before p here. c.loop-colour.invariant ds kept sizes j p before here)
    (λ p here. subst (λ q. IsOfferRefused c.args.whole q ds) (offer_in c.args.pair c.args.colours.now c.loop-colour.colour-index _ p there here) (c.is_shared.ensures.none c.args.pair ds kept c.if-is_shared.false))
    k below o offered

pub returns-clause-none : goal.returns-clause-none
returns-clause-none c ds kept sizes o has =
    let os = map (Image c.args.pair) c.args.colours.now in
    let at = place_of os o has in
    let within = at.1 in
    c.loop-colour.invariant ds kept sizes at.0 o (omega (arith, within, length-map c.args.colours.now (Image c.args.pair))) at.2
